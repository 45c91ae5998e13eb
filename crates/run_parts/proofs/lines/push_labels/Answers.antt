use Rattle.std.proofs.Common.{slice_index_or}
use Rattle.std.proofs.lemmas.List.Elements.{Contains-get_or}
use Rattle.run_parts.proofs.lines.push_labels.Goals as goal

pub label-requires : goal.label-requires
label-requires c = c.requires (slice_index_or c.args.participants.now c.loop-p.p-index 0) (Contains-get_or c.args.participants.now c.loop-p.p-index 0 c.loop-p-test.true)
