use Rattle.std.proofs.Common.{subst, sym}
use Rattle.verdicts.specs.Tables.{table_verdicts}
use Rattle.verdicts.specs.Verdicts.{AreSafe}
use Rattle.verdicts.proofs.TableLemmas.{safe_plan, safe_verdicts}
use Rattle.verdicts.proofs.tables.Table.is_safe.Goals as goal

pub returns : goal.returns
returns c plan t =
    let these = c.deref.ensures.value in (
      λ yes'. safe_plan plan (table_verdicts c.args.self.now) t (subst AreSafe these (c.all_safe.ensures.0 yes')),
      λ safe. c.all_safe.ensures.1 (subst AreSafe (sym these) (safe_verdicts plan (table_verdicts c.args.self.now) t safe)),
    )
