-- Worked examples of the program, computed by the definitions alone.
use Rattle.std.proofs.Common.{◌≡◌, ℕ, List, [], ◌∷◌, ◌++◌, Some, None, Ok, Err, codes, map, refl}
use Rattle.std.specs.Prelude.{replicate}
use Rattle.std.specs.Fmt.{digits}
use Rattle.wt_keys.specs.declared.fault.Fault.TheVariants.{NoMemory, BadConfig}
use Rattle.wt_keys.specs.declared.fault.Field.TheVariants as field
use Rattle.wt_keys.specs.Hash.{bits_for, bits_from}
use Rattle.wt_sketch.specs.Sketch.{counted, counted_word, estimate_of}
use Rattle.wt_trace.specs.Answers.{line_step, answers}
use Rattle.wt_trace.specs.FaultLine.{fault_line}
use Rattle.wt_trace.specs.Options.{option_fault, default_options}
use Rattle.wt_trace.specs.Report.{Report, report, line_text, count_text, summary, summary_of, printed}
use Rattle.wt_trace.specs.Trace.{checked}
use Rattle.wt_trace.specs.declared.fault.ReplayFault.TheVariants.{Cache, BadLine, LineTooLong, TooManyLines, ReadFault, WriteFault, GateShut}
use Rattle.wt_trace.specs.declared.options.Options.{Options}

-- four entries, one of them in window, and weights up to 1000
abbrev four : Options
four = record default_options { entries = 4; window = Some 1; weight = 1000 }

abbrev good : List ℕ → Report
good text = record { text = text; verdict = Ok tt }

abbrev bad : ℕ → Report
bad line = record { text = []; verdict = Err (BadLine line) }

pub an_empty_trace : report four [] ≡ good (codes "lookups 0 hits 0 misses 0 loads 0 failed 0 evicted 0 entries 0 weight 0\n")
unfolding counted_word estimate_of checked line_step answers line_text count_text summary summary_of printed digits
an_empty_trace = refl

pub a_store_and_a_hit : report four (codes "0 P 1\n0 L 1\n") ≡ good (codes "1 put\n2 hit 1\nlookups 1 hits 1 misses 0 loads 0 failed 0 evicted 0 entries 1 weight 1\n")
unfolding counted_word estimate_of checked line_step answers line_text count_text summary summary_of printed digits
a_store_and_a_hit = refl

pub the_last_leaves : report (record four { entries = 2; window = Some 2 }) (codes "0 P 1\n0 P 2\n0 P 3\n") ≡ good (codes "1 put\n2 put\n3 put 1:1:size\nlookups 0 hits 0 misses 0 loads 0 failed 0 evicted 1 entries 2 weight 2\n")
unfolding counted_word estimate_of checked line_step answers line_text count_text summary summary_of printed digits
the_last_leaves = refl

-- the candidate is let in where it was asked for more often than the victim
pub loads_and_evictions : report four (codes "0 G 1\n0 G 2\n0 G 3\n0 G 4\n0 G 1\n0 G 5\n0 G 4\n0 G 6\n") ≡ good (codes "1 load\n2 load\n3 load\n4 load\n5 hit 1\n6 load 4:4:size\n7 load 5:6:size\n8 load 2:2:size\nlookups 8 hits 1 misses 7 loads 7 failed 0 evicted 3 entries 4 weight 4\n")
unfolding counted counted_word bits_for bits_from estimate_of checked line_step answers line_text count_text
    summary summary_of printed digits
loads_and_evictions = refl

pub expired_after_write : report (record four { write = Some 100 }) (codes "0 P 1\n99 L 1\n100 L 1\n") ≡ good (codes "1 put\n2 hit 1\n3 absent 1:1:expired\nlookups 2 hits 1 misses 1 loads 0 failed 0 evicted 1 entries 0 weight 0\n")
unfolding counted_word estimate_of checked line_step answers line_text count_text summary summary_of printed digits
expired_after_write = refl

pub the_moment_never_goes_back : report (record four { write = Some 100 }) (codes "100 P 1\n50 L 1\n199 L 1\n200 L 1\n") ≡ good (codes "1 put\n2 hit 1\n3 hit 1\n4 absent 1:1:expired\nlookups 3 hits 2 misses 1 loads 0 failed 0 evicted 1 entries 0 weight 0\n")
unfolding counted_word estimate_of checked line_step answers line_text count_text summary summary_of printed digits
the_moment_never_goes_back = refl

-- is not joined, and its value not kept
pub a_load_that_is_forgotten : report four (codes "0 S 1\n0 S 1\n0 F 1\n0 S 1\n0 E 1\n0 L 1\n0 E 1\n0 L 1\n") ≡ good (codes "1 lead 1\n2 join 1\n3 forget\n4 lead 2\n5 loose 2\n6 absent\n7 land 1\n8 hit 7\nlookups 5 hits 1 misses 4 loads 2 failed 0 evicted 0 entries 1 weight 1\n")
unfolding counted_word estimate_of checked line_step answers line_text count_text summary summary_of printed digits
a_load_that_is_forgotten = refl

-- the write stays
pub a_write_during_a_load : report four (codes "0 S 1\n0 P 1\n0 E 1\n0 L 1\n") ≡ good (codes "1 lead 1\n2 put\n3 loose 1\n4 hit 2\nlookups 2 hits 1 misses 1 loads 1 failed 0 evicted 0 entries 1 weight 1\n")
unfolding counted_word estimate_of checked line_step answers line_text count_text summary summary_of printed digits
a_write_during_a_load = refl

pub loads_that_fail : report (record four { fail_mod = Some 3 }) (codes "0 G 3\n0 G 3\n") ≡ good (codes "1 fail 7\n2 fail 7\nlookups 2 hits 0 misses 2 loads 0 failed 2 evicted 0 entries 0 weight 0\n")
unfolding counted_word estimate_of checked line_step answers line_text count_text summary summary_of printed digits
loads_that_fail = refl

pub a_heavy_value : report (record four { weight = 5; modulus = 10 }) (codes "0 P 9\n0 P 3\n0 P 2\n") ≡ good (codes "1 heavy\n2 put\n3 put 3:2:size\nlookups 0 hits 0 misses 0 loads 0 failed 0 evicted 1 entries 1 weight 3\n")
unfolding counted_word estimate_of checked line_step answers line_text count_text summary summary_of printed digits
a_heavy_value = refl

-- a life span that ends at the last moment of all
pub the_end_of_time : report (record four { write = Some 10 }) (codes "18446744073709551605 P 1\n18446744073709551615 L 1\n") ≡ good (codes "1 put\n2 absent 1:1:expired\nlookups 1 hits 0 misses 1 loads 0 failed 0 evicted 1 entries 0 weight 0\n")
unfolding counted_word estimate_of checked line_step answers line_text count_text summary summary_of printed digits
the_end_of_time = refl

pub expired_after_access : report (record four { access = Some 10 }) (codes "0 P 1\n9 L 1\n18 L 1\n28 L 1\n") ≡ good (codes "1 put\n2 hit 1\n3 hit 1\n4 absent 1:1:expired\nlookups 3 hits 2 misses 1 loads 0 failed 0 evicted 1 entries 0 weight 0\n")
unfolding counted_word estimate_of checked line_step answers line_text count_text summary summary_of printed digits
expired_after_access = refl

pub replaced_and_dropped : report four (codes "0 P 1\n0 P 1\n0 D 1\n0 D 1\n") ≡ good (codes "1 put\n2 put 1:1:replaced\n3 drop 1:2:explicit\n4 absent\nlookups 0 hits 0 misses 0 loads 0 failed 0 evicted 0 entries 0 weight 0\n")
unfolding counted_word estimate_of checked line_step answers line_text count_text summary summary_of printed digits
replaced_and_dropped = refl

-- expired entries leave where a step meets them, and all of them at a clean
pub a_clean : report (record four { write = Some 100 }) (codes "0 P 1\n0 P 2\n0 P 3\n0 P 4\n100 P 5\n150 P 6\n150 C\n") ≡ good (codes "1 put\n2 put\n3 put\n4 put\n5 put 4:4:expired\n6 put 1:1:expired\n7 clean 2:2:expired 3:3:expired\nlookups 0 hits 0 misses 0 loads 0 failed 0 evicted 4 entries 2 weight 2\n")
unfolding counted_word estimate_of checked line_step answers line_text count_text summary summary_of printed digits
a_clean = refl

pub all_flights_in_use : report (record four { flights = 1 }) (codes "0 S 1\n0 S 2\n0 G 1\n0 E 1\n0 E 1\n") ≡ good (codes "1 lead 1\n2 full\n3 join 1\n4 land 2\n5 none\nlookups 2 hits 0 misses 2 loads 1 failed 0 evicted 0 entries 1 weight 1\n")
unfolding counted_word estimate_of checked line_step answers line_text count_text summary summary_of printed digits
all_flights_in_use = refl

pub a_clear : report four (codes "0 P 1\n0 P 2\n0 P 3\n0 P 4\n0 X\n") ≡ good (codes "1 put\n2 put\n3 put\n4 put\n5 clear 4:4:explicit 1:1:explicit 2:2:explicit 3:3:explicit\nlookups 0 hits 0 misses 0 loads 0 failed 0 evicted 0 entries 0 weight 0\n")
unfolding counted_word estimate_of checked line_step answers line_text count_text summary summary_of printed digits
a_clear = refl

pub a_heavy_load : report (record four { weight = 5; modulus = 10 }) (codes "0 G 9\n") ≡ good (codes "1 loose 1\nlookups 1 hits 0 misses 1 loads 1 failed 0 evicted 0 entries 0 weight 0\n")
unfolding counted_word estimate_of checked line_step answers line_text count_text summary summary_of printed digits
a_heavy_load = refl

pub stores_and_evictions : report four (codes "0 P 1\n0 P 2\n0 P 3\n0 P 4\n0 L 1\n0 P 5\n0 P 4\n0 P 6\n") ≡ good (codes "1 put\n2 put\n3 put\n4 put\n5 hit 1\n6 put 4:4:size\n7 put 5:6:size\n8 put 2:2:size\nlookups 1 hits 1 misses 0 loads 0 failed 0 evicted 3 entries 4 weight 4\n")
unfolding counted counted_word bits_for bits_from estimate_of checked line_step answers line_text count_text
    summary summary_of printed digits
stores_and_evictions = refl

pub a_store_over_an_expired_entry : report (record four { write = Some 100 }) (codes "0 P 1\n100 P 1\n") ≡ good (codes "1 put\n2 put 1:1:expired\nlookups 0 hits 0 misses 0 loads 0 failed 0 evicted 1 entries 1 weight 1\n")
unfolding counted_word estimate_of checked line_step answers line_text count_text summary summary_of printed digits
a_store_over_an_expired_entry = refl

pub a_drop_of_an_expired_entry : report (record four { write = Some 100 }) (codes "0 P 1\n100 D 1\n") ≡ good (codes "1 put\n2 absent 1:1:expired\nlookups 0 hits 0 misses 0 loads 0 failed 0 evicted 1 entries 0 weight 0\n")
unfolding counted_word estimate_of checked line_step answers line_text count_text summary summary_of printed digits
a_drop_of_an_expired_entry = refl

pub a_clear_during_a_load : report four (codes "0 S 1\n0 X\n0 E 1\n0 L 1\n") ≡ good (codes "1 lead 1\n2 clear\n3 loose 1\n4 absent\nlookups 2 hits 0 misses 2 loads 1 failed 0 evicted 0 entries 0 weight 0\n")
unfolding counted_word estimate_of checked line_step answers line_text count_text summary summary_of printed digits
a_clear_during_a_load = refl

pub a_drop_during_a_load : report four (codes "0 S 1\n0 D 1\n0 E 1\n") ≡ good (codes "1 lead 1\n2 absent\n3 loose 1\nlookups 1 hits 0 misses 1 loads 1 failed 0 evicted 0 entries 0 weight 0\n")
unfolding counted_word estimate_of checked line_step answers line_text count_text summary summary_of printed digits
a_drop_during_a_load = refl

pub one_failure_for_two : report (record four { fail_mod = Some 3 }) (codes "0 S 3\n0 S 3\n0 E 3\n0 E 3\n") ≡ good (codes "1 lead 1\n2 join 1\n3 fail 7\n4 none\nlookups 2 hits 0 misses 2 loads 0 failed 1 evicted 0 entries 0 weight 0\n")
unfolding counted_word estimate_of checked line_step answers line_text count_text summary summary_of printed digits
one_failure_for_two = refl

-- the old value is answered while the load runs
pub a_refresh : report (record four { refresh = Some 50 }) (codes "0 P 1\n49 G 1\n50 G 1\n51 G 1\n") ≡ good (codes "1 put\n2 hit 1\n3 hit 1 load 1:1:replaced\n4 hit 3\nlookups 3 hits 3 misses 0 loads 1 failed 0 evicted 0 entries 1 weight 1\n")
unfolding counted_word estimate_of checked line_step answers line_text count_text summary summary_of printed digits
a_refresh = refl

-- the old value stays
pub a_refresh_that_fails : report (record four { refresh = Some 50; fail_mod = Some 3 }) (codes "0 P 3\n50 G 3\n50 G 3\n") ≡ good (codes "1 put\n2 hit 1 fail 7\n3 hit 1 fail 7\nlookups 2 hits 2 misses 0 loads 0 failed 2 evicted 0 entries 1 weight 1\n")
unfolding counted_word estimate_of checked line_step answers line_text count_text summary summary_of printed digits
a_refresh_that_fails = refl

pub one_refresh_at_once : report (record four { refresh = Some 50 }) (codes "0 P 1\n50 S 1\n50 S 1\n60 E 1\n60 L 1\n") ≡ good (codes "1 put\n2 hit 1 lead 1\n3 hit 1\n4 land 1 1:1:replaced\n5 hit 4\nlookups 3 hits 3 misses 0 loads 1 failed 0 evicted 0 entries 1 weight 1\n")
unfolding counted_word estimate_of checked line_step answers line_text count_text summary summary_of printed digits
one_refresh_at_once = refl

pub an_entry_expires_during_its_refresh : report (record four { write = Some 100; refresh = Some 50 }) (codes "0 P 1\n60 S 1\n100 S 1\n100 E 1\n100 L 1\n") ≡ good (codes "1 put\n2 hit 1 lead 1\n3 join 1 1:1:expired\n4 land 2\n5 hit 4\nlookups 3 hits 2 misses 1 loads 1 failed 0 evicted 1 entries 1 weight 1\n")
unfolding counted_word estimate_of checked line_step answers line_text count_text summary summary_of printed digits
an_entry_expires_during_its_refresh = refl

pub no_flight_is_left_for_a_refresh : report (record four { refresh = Some 50; flights = 1 }) (codes "0 S 2\n0 P 1\n50 G 1\n") ≡ good (codes "1 lead 1\n2 put\n3 hit 2\nlookups 2 hits 1 misses 1 loads 0 failed 0 evicted 0 entries 1 weight 1\n")
unfolding counted_word estimate_of checked line_step answers line_text count_text summary summary_of printed digits
no_flight_is_left_for_a_refresh = refl

pub a_write_during_a_refresh : report (record four { refresh = Some 50 }) (codes "0 P 1\n50 S 1\n51 P 1\n52 E 1\n52 L 1\n") ≡ good (codes "1 put\n2 hit 1 lead 1\n3 put 1:1:replaced\n4 loose 1\n5 hit 3\nlookups 2 hits 2 misses 0 loads 1 failed 0 evicted 0 entries 1 weight 1\n")
unfolding counted_word estimate_of checked line_step answers line_text count_text summary summary_of printed digits
a_write_during_a_refresh = refl

pub names_for_keys : report four (codes "wt 2\n0 P foobar\n0 L foobar\n0 L a\n") ≡ good (codes "2 put\n3 hit 2\n4 absent\nlookups 2 hits 1 misses 1 loads 0 failed 0 evicted 0 entries 1 weight 1\n")
unfolding counted_word estimate_of checked line_step answers line_text count_text summary summary_of printed digits
names_for_keys = refl

pub weights_of_names : report (record four { modulus = 10 }) (codes "wt 2\n0 P a\n0 P foobar\n") ≡ good (codes "2 put\n3 put\nlookups 0 hits 0 misses 0 loads 0 failed 0 evicted 0 entries 2 weight 16\n")
unfolding counted_word estimate_of checked line_step answers line_text count_text summary summary_of printed digits
weights_of_names = refl

pub a_name_is_shown : report four (codes "wt 2\n0 P a\n0 D a\n") ≡ good (codes "2 put\n3 drop a:2:explicit\nlookups 0 hits 0 misses 0 loads 0 failed 0 evicted 0 entries 0 weight 0\n")
unfolding counted_word estimate_of checked line_step answers line_text count_text summary summary_of printed digits
a_name_is_shown = refl

pub a_header_comes_first : report four (codes "0 L 1\nwt 2\n") ≡ record { text = codes "1 absent\n"; verdict = Err (BadLine 2) }
unfolding counted_word estimate_of checked line_step answers line_text count_text summary summary_of printed digits
a_header_comes_first = refl

pub a_colon_is_in_no_name : report four (codes "wt 2\n0 P a:b\n") ≡ bad 2
unfolding counted_word estimate_of checked line_step answers line_text count_text summary summary_of printed digits
a_colon_is_in_no_name = refl

pub a_name_of_25_bytes : report four (codes "wt 2\n0 P " ++ (replicate 25 110 ++ codes "\n")) ≡ bad 2
unfolding counted_word estimate_of checked line_step answers line_text count_text summary summary_of printed digits
a_name_of_25_bytes = refl

pub a_header_alone : report four (codes "wt 2") ≡ good (codes "lookups 0 hits 0 misses 0 loads 0 failed 0 evicted 0 entries 0 weight 0\n")
unfolding counted_word estimate_of checked line_step answers line_text count_text summary summary_of printed digits
a_header_alone = refl

pub no_such_format : report four (codes "wt 3\n") ≡ bad 1
unfolding counted_word estimate_of checked line_step answers line_text count_text summary summary_of printed digits
no_such_format = refl

pub a_header_with_a_carriage_return : report four (codes "wt 2\r\n") ≡ bad 1
unfolding counted_word estimate_of checked line_step answers line_text count_text summary summary_of printed digits
a_header_with_a_carriage_return = refl

pub one_header : report four (codes "wt 2\nwt 2\n") ≡ bad 2
unfolding counted_word estimate_of checked line_step answers line_text count_text summary summary_of printed digits
one_header = refl

-- of four shards each of keys 1 to 4 has one of its own
pub loads_of_four_shards : report (record four { shards = 4 }) (codes "0 G 1\n0 G 2\n0 G 3\n0 G 4\n0 G 1\n0 G 5\n0 G 4\n0 G 6\n") ≡ good (codes "1 load\n2 load\n3 load\n4 load\n5 hit 1\n6 load\n7 hit 4\n8 load\nlookups 8 hits 2 misses 6 loads 6 failed 0 evicted 0 entries 6 weight 6\n")
unfolding counted_word estimate_of checked line_step answers line_text count_text summary summary_of printed digits
loads_of_four_shards = refl

-- of two shards the first has keys 3 and 4, and it is cleared first
pub a_clear_of_two_shards : report (record four { shards = 2 }) (codes "0 P 1\n0 P 2\n0 P 3\n0 P 4\n0 X\n") ≡ good (codes "1 put\n2 put\n3 put\n4 put\n5 clear 4:4:explicit 3:3:explicit 2:2:explicit 1:1:explicit\nlookups 0 hits 0 misses 0 loads 0 failed 0 evicted 0 entries 0 weight 0\n")
unfolding counted_word estimate_of checked line_step answers line_text count_text summary summary_of printed digits
a_clear_of_two_shards = refl

pub a_bad_line_ends_the_report : report four (codes "0 P 1\n0 L 1\n0 L 2\n0 Q 1\n") ≡ record { text = codes "1 put\n2 hit 1\n3 absent\n"; verdict = Err (BadLine 4) }
unfolding counted_word estimate_of checked line_step answers line_text count_text summary summary_of printed digits
a_bad_line_ends_the_report = refl

pub a_long_line_ends_the_report : report four (codes "0 P 1\n0 L 1\n0 L 2\n" ++ replicate 65 49) ≡ record { text = codes "1 put\n2 hit 1\n3 absent\n"; verdict = Err (LineTooLong 4) }
unfolding counted_word estimate_of checked line_step answers line_text count_text summary summary_of printed digits
a_long_line_ends_the_report = refl

pub a_last_line_needs_no_end : report four (codes "0 P 1\n0 L 1\n0 L 2\n0 L 1") ≡ good (codes "1 put\n2 hit 1\n3 absent\n4 hit 1\nlookups 3 hits 2 misses 1 loads 0 failed 0 evicted 0 entries 1 weight 1\n")
unfolding counted_word estimate_of checked line_step answers line_text count_text summary summary_of printed digits
a_last_line_needs_no_end = refl

pub leading_zeros_are_allowed : report four (codes "00000000000000000000 L 1\n") ≡ good (codes "1 absent\nlookups 1 hits 0 misses 1 loads 0 failed 0 evicted 0 entries 0 weight 0\n")
unfolding counted_word estimate_of checked line_step answers line_text count_text summary summary_of printed digits
leading_zeros_are_allowed = refl

-- two spaces, no key, an empty line, a moment of 2^64, a carriage return, a letter that isn't there, a name as a key
pub lines_that_are_none : map (report four) (codes "0  L 1\n" ∷ codes "0 L\n" ∷ codes "\n" ∷ codes "18446744073709551616 L 1\n" ∷ codes "0 L 1\r\n" ∷ codes "0 Q 1\n" ∷ codes "0 L a\n" ∷ [])
    ≡ bad 1 ∷ bad 1 ∷ bad 1 ∷ bad 1 ∷ bad 1 ∷ bad 1 ∷ bad 1 ∷ []
unfolding counted_word estimate_of checked line_step answers line_text count_text summary summary_of printed digits
lines_that_are_none = refl

-- the first field that is out of its range
pub faults_of_options : map option_fault
    (four ∷ default_options ∷ record four { shards = 0 } ∷ record four { shards = 3 } ∷ record four
    { entries = 0 } ∷ record four { entries = 65537 } ∷ record four { window = Some 0 } ∷ record four
    { window = Some 5 } ∷ record four { weight = 0 }
    ∷ record four { weight = 281474976710657 } ∷ record four { modulus = 0 } ∷ record four { modulus = 1000001 }
    ∷ record four { write = Some 0 } ∷ record four { access = Some 0 } ∷ record four
    { refresh = Some 0; flights = 0 } ∷ record four { fail_mod = Some 0 }
    ∷ record four { flights = 0 } ∷ record four { flights = 4097 } ∷ record four { ring = Some 32 }
    ∷ record four { ring = Some 65537 } ∷ record four { flights = 4096; ring = Some 4096 } ∷ record four
    { threads = 65 } ∷ record four { turn = 1 } ∷ record four { turn = 64; workers = 64 } ∷ record four
    { turn = 65 } ∷ record four { turn = 2; threads = 2 } ∷ record four { turn = 2; workers = 65 }
    ∷ record four { workers = 1 } ∷ record default_options { adaptive = 1 } ∷ record default_options
    { adaptive = 1; entries = 63 } ∷ record default_options { adaptive = 1; entries = 64 }
    ∷ record default_options { adaptive = 1; window = Some 10 }
    ∷ record default_options { adaptive = 1; turn = 1 } ∷ record default_options { adaptive = 2 } ∷ [])
    ≡ None ∷ None ∷ Some field.Shards ∷ Some field.Shards ∷ Some field.Entries ∷ Some field.Entries ∷ Some
    field.Window ∷ Some field.Window ∷ Some field.Bound
    ∷ Some field.Bound ∷ Some field.Modulus ∷ Some field.Modulus ∷ Some field.AfterWrite ∷ Some
    field.AfterAccess ∷ Some field.Refresh ∷ Some field.FailMod
    ∷ Some field.Flights ∷ Some field.Flights ∷ Some field.Ring ∷ Some field.Ring ∷ Some field.Ring ∷ Some
    field.Threads ∷ None ∷ None ∷ Some field.Turn ∷ Some field.Turn ∷ Some field.Workers ∷ Some
    field.Workers ∷ None ∷ Some field.Adaptive ∷ None ∷ Some field.Adaptive ∷ None ∷ Some field.Adaptive ∷ []
faults_of_options = refl

pub fault_lines : map fault_line
    (Cache NoMemory ∷ Cache (BadConfig field.FailMod) ∷ BadLine 4 ∷ LineTooLong 12 ∷ TooManyLines ∷ ReadFault
    ∷ WriteFault ∷ GateShut 7 ∷ [])
    ≡ codes "fault 1\n" ∷ codes "fault 2 field fail-mod\n" ∷ codes "fault 11 line 4\n" ∷ codes "fault 12 line 12\n" ∷ codes "fault 13\n" ∷ codes "fault 14\n" ∷ codes "fault 15\n" ∷ codes "fault 17 line 7\n" ∷ []
unfolding digits
fault_lines = refl
