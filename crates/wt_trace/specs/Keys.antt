-- The keys of a trace: numbers, and names.
use Rattle.std.specs.Prelude.{◌≡◌, ℕ, ◌^◌, ◌<◌, ◌≤◌, ◌==◌, nat_eq, nat_lt, nat_le, Bool, true, not, ◌&&◌, if◌then◌else◌, List, length, Option, None, Some, decimal}
use Rattle.std.specs.List.{list_all}
use Rattle.std.specs.Cmp.Lexicographic.{pointwise}
use Rattle.std.specs.Str.{all_ascii_digits}
use Rattle.std.specs.Str.Parse.{AllDigits, digits_value}
use Rattle.wt_keys.specs.Hash.{word_of_name}

-- a kind of keys: when two are equal, the word of one, how it is read, and how it is printed
pub record Keys (K : Type 0) : Type 0 where
  pub eq : K → K → Bool
  pub word : K → ℕ
  pub read : List ℕ → Option K
  pub shown : K → List ℕ

-- the kind of keys that have these
abbrev pub keys_by : {K : Type 0} → (K → K → Bool) → (K → ℕ) → (List ℕ → Option K) → (K → List ℕ) → Keys K
keys_by eq word read shown = record { eq = eq; word = word; read = read; shown = shown }

-- what a clause has as K.TraceKey: all members of a key
abbrev pub KeyMembers : Type 0 → Type 0
KeyMembers K = record { hash_input : K → List (List ℕ); eq : K → K → Bool; word : K → ℕ; read : List ℕ → Option K; shown : K → List ℕ }

-- the kind of keys that has these
abbrev pub keys_of : {K : Type 0} → KeyMembers K → Keys K
keys_of m = keys_by m.eq m.word m.read m.shown

-- digits have this value, which is below 2^64
abbrev pub IsValueOf : List ℕ → ℕ → Type 0
IsValueOf digits n = AllDigits 10 digits × (n ≡ digits_value 10 digits) × (n < 2 ^ 64)

-- 1 to 20 decimal digits, whose value is below 2^64
pub record IsNumber (digits : List ℕ) (n : ℕ) : Type 0 where
  pub decimal : all_ascii_digits digits ≡ true
  pub some : 0 < length digits
  pub few : length digits ≤ 20
  pub value : digits_value 10 digits ≡ n
  pub fits : n < 2 ^ 64

-- the number that the bytes spell, if they spell one
abbrev pub number_of : List ℕ → Option ℕ
number_of digits =
    if (all_ascii_digits digits && nat_lt 0 (length digits)) && (nat_le (length digits) 20 && nat_lt (digits_value 10 digits) (2 ^ 64))
    then Some (digits_value 10 digits) else None

-- a printed character that is neither a space nor a colon
abbrev pub is_name_byte : ℕ → Bool
is_name_byte b = (nat_le 33 b && nat_le b 126) && not (b == 58)

-- 1 to 24 such bytes
pub record IsName (bytes name : List ℕ) : Type 0 where
  pub some : 0 < length bytes
  pub few : length bytes ≤ 24
  pub printed : list_all is_name_byte bytes ≡ true
  pub same : bytes ≡ name

-- the name that the bytes spell, if they spell one
abbrev pub name_of : List ℕ → Option (List ℕ)
name_of bytes = if (nat_lt 0 (length bytes) && nat_le (length bytes) 24) && list_all is_name_byte bytes then Some bytes else None

-- keys that are numbers: each is its own word
abbrev pub numbers : Keys ℕ
numbers = record { eq = nat_eq; word = λ k. k; read = number_of; shown = decimal }

-- keys that are names
abbrev pub names : Keys (List ℕ)
names = record { eq = pointwise nat_eq; word = word_of_name; read = name_of; shown = λ bytes. bytes }
