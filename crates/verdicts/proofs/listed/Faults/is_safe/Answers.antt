use Rattle.std.proofs.Common.{◌≡◌, length, arith}
use Rattle.std.proofs.lemmas.Bool.Decides.{nat_tests}
use Rattle.verdicts.specs.Faults.{fault_list}
use Rattle.verdicts.proofs.FaultLemmas.{safe_without_faults, no_faults_where_safe}
use Rattle.verdicts.proofs.listed.Faults.is_safe.Goals as goal

pub returns : goal.returns
returns c plan h = (
  λ none.
      let e : length (fault_list c.args.self.now) ≡ 0 = grind (arith, nat_tests) in
      safe_without_faults plan (fault_list c.args.self.now) h e,
  λ safe. let e = no_faults_where_safe plan (fault_list c.args.self.now) h safe in grind (arith, nat_tests),
)
