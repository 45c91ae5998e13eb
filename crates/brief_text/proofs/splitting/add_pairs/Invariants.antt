use Rattle.std.proofs.Common.{◌≡◌, map, drop}
use Rattle.plan_core.specs.BuilderContents.{builder_contents}
use Rattle.brief_text.specs.Parting.{apart}
use Rattle.brief_text.specs.Splitting.{with_pairs}
use Rattle.brief_text.proofs.splitting.add_pairs.Given as goal

abbrev pub invariant-loop-pair : goal.invariant-loop-pair
invariant-loop-pair l =
    with_pairs (builder_contents l.builder) (map apart (drop l.pair-index l.pairs)) ≡ with_pairs (builder_contents l.initial.builder) (map apart l.pairs)
