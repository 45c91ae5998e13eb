use Rattle.std.proofs.Common.{◌≡◌, ◌∙◌, ap, sym, subst, ℕ, List, [], ◌∷◌, length, replicate}
use Rattle.bus_bench.specs.Hands.{setup_game}
use Rattle.bus_bench.specs.Rule.{SLOTS, IsWired, opening}
use Rattle.std.proofs.lemmas.List.{length-replicate}
use Rattle.std.proofs.lemmas.Result.{IfOk-weaker}
use Rattle.bus_bench.proofs.StepLemmas.{opens}
use Rattle.bus_bench.proofs.opening.lay.Goals as goal

pub of_words-requires : goal.of_words-requires
of_words-requires c =
    let zeros : c.as_slice.result.now ≡ replicate SLOTS 0 = c.as_slice.ensures.value ∙ c.in_ok-words.ensures in
    subst (λ (ws : List ℕ). IsWired (setup_game c.args.setup.now) ws (opening c.args.setup.now ∷ [])) (sym zeros) (opens c.args.setup.now c.requires)

pub returns : goal.returns
returns c =
    let zeros : length c.as_slice.result.now ≡ SLOTS = ap length (c.as_slice.ensures.value ∙ c.in_ok-words.ensures) ∙ length-replicate {A = ℕ} SLOTS 0 in
    IfOk-weaker c.of_words.result _ _ (λ t h. (h.0 ∙ zeros, h.5, h.2, h.4)) c.of_words.ensures
