-- What a step does to the regions.
use Rattle.std.specs.Prelude.{ℕ, Bool, if◌then◌else◌, List, [], ◌∷◌, ◌++◌}
use Rattle.std.specs.Option.{option_map_or}
use Rattle.wt_regions.specs.declared.caps.Caps.{Caps}
use Rattle.wt_regions.specs.declared.notices.Cause.TheVariants.{Explicit, Replaced, Expired}
use Rattle.wt_regions.specs.declared.notices.Notice.{Notice}
use Rattle.wt_regions.specs.declared.weighs.Measure.{Measure}
use Rattle.wt_regions.specs.Lists.{Entry, Lists, Told, no_entries, notice, held, is_expired, held_for, without}
use Rattle.wt_regions.specs.Touch.{touched}
use Rattle.wt_regions.specs.Settle.{settled, trimmed}

module _ {K V : Type 0} where
  -- an entry that is stored now, by the step of this number
  abbrev pub new_entry : (V → Measure) → K → V → ℕ → ℕ → Entry K V
  new_entry measure k value now stamp = (k, held value (measure value) stamp now)

  module _ (eq : K → K → Bool) where
    -- the entry of the key leaves if it is expired
    abbrev pub without_expired : K → ℕ → Lists K V → Told K V
    without_expired k now r = option_map_or (λ h. if is_expired r.caps now h then (without eq k r, notice Expired (k, h) ∷ []) else (r, [])) (held_for eq k r) (r, [])

    -- the notice if the entry of the key leaves: Expired if it is expired, else Explicit
    abbrev pub removal : K → ℕ → Lists K V → List (Notice K V)
    removal k now r = option_map_or (λ h. notice (if is_expired r.caps now h then Expired else Explicit) (k, h) ∷ []) (held_for eq k r) []

    -- the entry of the key leaves
    abbrev pub removed : K → ℕ → Lists K V → Told K V
    removed k now r = (without eq k r, removal k now r)

  module _ (eq : K → K → Bool) (estimate : K → ℕ) (now : ℕ) where
    -- the entry settles if no other of its key is there; it takes the place of one that isn't expired, and an expired one leaves first
    abbrev pub placed : Entry K V → Lists K V → Told K V
    placed e r =
        option_map_or (λ h.
        if is_expired r.caps now h
        then (let new : Told K V = settled estimate now e (without eq e.0 r) in (new.0, notice Expired (e.0, h) ∷ [] ++ new.1))
        else (touched eq e.0 (λ _. e.1) r, notice Replaced (e.0, h) ∷ []))
        (held_for eq e.0 r) (settled estimate now e r)

    -- it is stored: it is placed, and then the weights are trimmed
    abbrev pub stored : Entry K V → Lists K V → Told K V
    stored e r =
        let new : Told K V = placed e r in
        let fit : Told K V = trimmed eq e.0 new.0 in
        (fit.0, new.1 ++ fit.1)

  module _ (now : ℕ) (caps : Caps) where
    -- the entries of a region that aren't expired
    abbrev pub live_of : List (Entry K V) → List (Entry K V)
    live_of [] = []
    live_of (e ∷ es) = if is_expired caps now e.1 then live_of es else e ∷ live_of es

    -- the notices of those that are, from last to first
    abbrev pub expired_of : List (Entry K V) → List (Notice K V)
    expired_of [] = []
    expired_of (e ∷ es) = if is_expired caps now e.1 then expired_of es ++ notice Expired e ∷ [] else expired_of es

    -- the notices of all, from last to first
    abbrev pub told_back : List (Entry K V) → List (Notice K V)
    told_back [] = []
    told_back (e ∷ es) = told_back es ++ notice (if is_expired caps now e.1 then Expired else Explicit) e ∷ []

  module _ (now : ℕ) where
    -- every expired entry leaves
    abbrev pub cleaned : Lists K V → Told K V
    cleaned r = (
      record r { window = live_of now r.caps r.window; probation = live_of now r.caps r.probation; protected = live_of now r.caps r.protected },
      expired_of now r.caps r.window ++ (expired_of now r.caps r.probation ++ expired_of now r.caps r.protected),
    )

    -- every entry leaves
    abbrev pub cleared : Lists K V → Told K V
    cleared r = (no_entries r.caps, told_back now r.caps r.window ++ (told_back now r.caps r.probation ++ told_back now r.caps r.protected))
