use Rattle.std.proofs.Common.{sym, ◌∙◌}
use Rattle.plan_core.specs.NameBytes.{name_bytes}
use Rattle.std.specs.Str.{bytes_eq}
use Rattle.plan_core.proofs.StepLemmas.{list_any-map}
use Rattle.brief_text.proofs.splitting.is_among.Goals as goal

pub returns : goal.returns
returns c = c.contains.ensures.value ∙ sym (list_any-map (λ other. bytes_eq other (name_bytes c.args.name.now)) name_bytes c.args.names.now)
