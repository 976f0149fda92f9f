use Rattle.std.proofs.Common.{◌≡◌, fold, take}
use Rattle.wt_keys.specs.Hash.{with_byte}
use Rattle.wt_keys.proofs.name.NameCacheKey.word.Given as goal

abbrev pub invariant-loop-byte : goal.invariant-loop-byte
invariant-loop-byte l = l.word ≡ fold with_byte 0xCBF29CE484222325 (take l.byte-index l.byte-items)
