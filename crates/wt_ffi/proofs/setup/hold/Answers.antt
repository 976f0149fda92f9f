use Rattle.std.proofs.Common.{◌≡◌, Option, None, Some, refl}
use Rattle.std.specs.Prelude.{IsNone}
use Rattle.wt_ffi.proofs.setup.hold.Goals as goal

-- said once, since a search would look into the cache that isn't there
none-is : {X : Type 0} (o : Option X) → IsNone o → o ≡ None
none-is None h = refl
none-is (Some x) h = cc

pub returns-in-Err-clause-err : goal.returns-in-Err-clause-err
returns-in-Err-clause-err c = λ more. none-is _ c.requires
