-- Why starters are refused, in the words of those who open a bench.
use Rattle.run_errors.specs.declared.benches.OpenError.{OpenError}
use Rattle.run_errors.specs.declared.benches.OpenError.TheVariants.{NoStarter, Unknown, SameController, Never}
use Rattle.plays.specs.declared.starters.RefusedStarters.{RefusedStarters}
use Rattle.plays.specs.declared.starters.RefusedStarters.TheVariants as refused

-- the refusal of a bench that this tells of
abbrev pub reason_of : RefusedStarters → OpenError
reason_of refused.Nobody = NoStarter
reason_of (refused.Unknown label) = Unknown
reason_of (refused.OneController x y) = SameController
reason_of (refused.Apart x y) = Never
