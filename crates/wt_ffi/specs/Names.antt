-- Names, as C hands them in and reads them.
use Rattle.std.specs.Prelude.{ℕ, ◌-◌, nat_le, if◌then◌else◌, List, ◌++◌, length, take, replicate, Option, Some, None, IfSome}
use Rattle.wt_ffi.specs.declared.handle.Handle.{Handle}
use Rattle.wt_ffi.specs.declared.text.Text.{Text}
use Rattle.wt_ffi.specs.declared.opened.Opened.{Opened}
use Rattle.wt_ffi.specs.declared.opened.Opened.TheVariants as kind
use Rattle.wt_ffi.specs.Handle.{cache_of}
use Rattle.wt_ffi.specs.Open.{Open}

-- the name that a text stands for: its first bytes, if they are at most 24
abbrev pub name_of : Text → Option (List ℕ)
name_of t = if nat_le t.length 24 then Some (take t.length t.bytes) else None

-- a name with zeros behind it
abbrev pub text_of : List ℕ → Text
text_of name = record { bytes = name ++ replicate (24 - length name) 0; length = length name }

-- a name and the cache that is asked for it
pub record Asked : Type 0 where
  pub name : List ℕ
  pub cache : Open (List ℕ)

-- what a call by name goes to: there is such a name, and an open cache of names
abbrev pub asked_for : Option (List ℕ) → Option Opened → Option Asked
asked_for (Some name) (Some (kind.Names c)) = Some (record { name = name; cache = c })
asked_for (Some name) (Some (kind.Numbers c)) = None
asked_for (Some name) None = None
asked_for None opened = None

-- what a call with a text goes to
abbrev pub asked : Text → Handle → Option Asked
asked t h = asked_for (name_of t) (cache_of h)

-- this holds of what a call with a text goes to, if it goes to a cache
abbrev pub IfAsked : Text → Handle → (Asked → Type 0) → Type 0
IfAsked t h P = IfSome (asked t h) P

-- the number that is returned if it goes to nothing: the name is too long, the cache closed, or its keys numbers
abbrev pub number_for_none : Option (List ℕ) → Option Opened → ℕ
number_for_none None opened = 104
number_for_none (Some name) None = 100
number_for_none (Some name) (Some opened) = 103

-- the number that is returned of a text if it goes to nothing: 104 if it is too long, 100 if the cache is closed, 103 if its keys are
-- numbers
abbrev pub number_unasked : Text → Handle → ℕ
number_unasked t h = number_for_none (name_of t) (cache_of h)
