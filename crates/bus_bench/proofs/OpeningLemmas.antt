-- What is handed out when a bench is opened.
use Rattle.std.proofs.Common.{◌≡◌, ◌↔◌, ℕ, zero, suc, ◌+◌, ◌<◌, List, [], ◌∷◌, ◌++◌, length, Option, Some, None, refl, sym, ap, ◌∙◌, subst, arith, map, Bool}
use Rattle.std.specs.List.{slice_index_or}
use Rattle.atomic_table.specs.Seated.{TableId}
use Rattle.atomic_table.specs.Table.{Me, Splits}
use Rattle.message_tree.specs.declared.items.Item.{Item}
use Rattle.message_tree.specs.Texts.{Sender, SenderText}
use Rattle.plan_core.specs.Participants.{TextOf, sender_at, participant_count}
use Rattle.plan_core.specs.PlanContents.{plan_contents}
use Rattle.places.specs.declared.cursor.Place.{Place}
use Rattle.places.specs.Places.{rest_of}
use Rattle.plays.specs.Games.{Game, IsGame, those}
use Rattle.plays.proofs.PlayLemmas.{start_is_play}
use Rattle.bus_bench.specs.declared.hands.Hand.{Hand}
use Rattle.bus_bench.specs.declared.hands.Setup.{Setup}
use Rattle.bus_bench.specs.declared.hands.Terms.{Terms}
use Rattle.bus_bench.specs.declared.seats.Standing.TheVariants.{Playing}
use Rattle.bus_bench.specs.Hands.{hand_game, setup_game, starter}
use Rattle.bus_bench.specs.Opening.{IsHanding}
use Rattle.bus_bench.specs.Rule.{SLOTS, holds_at}
use Rattle.bus_bench.specs.Seats.{BenchName, Player, game_of, fresh}
use Rattle.bus_bench.specs.Steps.{handing_out, handed_out}
use Rattle.bus_bench.specs.Tickets.{bench_name, setup_of, IsBench, ticket_bench, IsSeat}
use Rattle.std.specs.List.{range_with_len}
use Rattle.std.specs.Prelude.{All}
use Rattle.std.proofs.lemmas.List.{map-append}
use Rattle.std.proofs.lemmas.List.Elements.{All-map, All-same}
use Rattle.plan_core.specs.declared.plans.Plan.{Plan}
use Rattle.plan_core.specs.Faults.{IsSafe}
use Rattle.plan_core.proofs.PlanLemmas.{limits_of}
use Rattle.plays.specs.Starters.{starters_refusal}
use Rattle.plays.proofs.StarterLemmas.{game_of_starters}
use Rattle.bus_bench.proofs.ViewLemmas.{at_those}
use Rattle.bus_bench.proofs.StepLemmas.{hands_out}

pub hand_out_allowed : (id bid : TableId) (key setup : Setup) (sid : ℕ) (me : Me Unit Hand) (number : ℕ) → bench_name bid setup ≡ ticket_bench id me → IsBench bid key setup → IsHanding (bench_name bid setup) number id me → number < length setup.starters.items
    → (id ≡ bid) × (0 < bid.words) × Splits (holds_at key) sid me.0 (handing_out me.0) (handed_out me.0)
hand_out_allowed id bid key setup sid me number named b h lt =
    let many : length setup.starters.items ≡ length me.0.starters = λ i. length (named i).starters in
    let out : me.0.seat ≡ number = h.out in
    let words : bid.words ≡ SLOTS = b.words in
    ((λ i. (sym named i).wire), omega arith, hands_out key sid me.0 h.hosts (omega arith))

pub starter_known : (bid : TableId) (key setup : Setup) (number starts : ℕ) → IsBench bid key setup → number < length setup.starters.items → starts ≡ slice_index_or setup.starters.items number 0 → starts < participant_count (plan_contents setup.plan.now)
starter_known bid key setup number starts b lt is = subst (λ (p : ℕ). p < participant_count (plan_contents setup.plan.now)) (sym is) (b.valid.lawful.participants (slice_index_or setup.starters.items number 0) (at_those setup.starters.items number lt))

pub handed_seat : (id bid : TableId) (key setup : Setup) (me part : Me Unit Hand) (number starts len : ℕ) (place : Place) (sent : Sender) → bench_name bid setup ≡ ticket_bench id me → IsBench bid key setup → me.0.seat ≡ number → number < length setup.starters.items
    → part ≡ (handed_out me.0, []) → len ≡ length setup.starters.items → starts ≡ slice_index_or setup.starters.items number 0 → sender_at (plan_contents setup.plan.now) starts ≡ Some sent → ((u : List Item) → rest_of place u ↔ SenderText sent u)
    → IsSeat part number place None 0 len Playing
handed_seat id bid key setup me part number starts len place sent named b out lt is len_is starts_is sends left =
    let game_is : setup_game setup ≡ hand_game me.0 = λ i. game_of (named i) in
    let many : length setup.starters.items ≡ length me.0.starters = λ i. length (named i).starters in
    let valid : IsGame (hand_game me.0) = subst IsGame game_is b.valid in
    let here_is : slice_index_or setup.starters.items number 0 ≡ starter (hand_game me.0) me.0.seat = λ i. slice_index_or (named i).starters (sym out i) 0 in
    let sender_is : sender_at (hand_game me.0).plan (starter (hand_game me.0) me.0.seat) ≡ Some sent =
    subst (λ (y : Game × ℕ). sender_at y.0.plan y.1 ≡ Some sent) (λ i. (game_is i, (starts_is ∙ here_is) i)) sends in
    subst (λ (m : Me Unit Hand). IsSeat m number place None 0 len Playing) (sym is) (record {
      slots = refl;
      plays = refl;
      valid = valid;
      in_place = sym out;
      number_within = omega arith;
      played = record { all = λ p. []; wire = []; live = those me.0.starters; play = start_is_play (hand_game me.0) valid; own = refl; rest = []; begins = refl };
      out = refl;
      stands = record {
        in_slot = refl;
        few = omega arith;
        alive = len_is ∙ many;
        own_put = refl;
        left = λ u. subst (λ (s : Option Sender). rest_of place u ↔ TextOf s u) (sym sender_is) (left u);
      };
    })

-- one seat more, in order
next_place : (a n : ℕ) → range_with_len a (suc n) ≡ range_with_len a n ++ (a + n) ∷ []
next_place a zero = let s : a ≡ a + 0 = omega arith in ap (λ (k : ℕ). k ∷ []) s
next_place a (suc n) = let s : a + 1 + n ≡ a + suc n = omega arith in let rest = next_place (a + 1) n in ap (λ (xs : List ℕ). a ∷ xs) (rest ∙ ap (λ (k : ℕ). range_with_len (a + 1) n ++ k ∷ []) s)

pub one_more_seat : (bench : BenchName) (n : ℕ) → map (fresh bench) (range_with_len 0 n) ++ fresh bench n ∷ [] ≡ map (fresh bench) (range_with_len 0 (n + 1))
one_more_seat bench n =
    let here : 0 + n ≡ n = omega arith in
    let next : suc n ≡ n + 1 = omega arith in
    sym (map-append (fresh bench) (range_with_len 0 n) (n ∷ [])) ∙ ap (map (fresh bench)) (ap (λ (k : ℕ). range_with_len 0 n ++ k ∷ []) (sym here) ∙ sym (next_place 0 n) ∙ ap (range_with_len 0) next)

-- the seats that an opened bench hands out are its own
pub of_its_bench : (bench : BenchName) (n : ℕ) (seats : List Player) → seats ≡ map (fresh bench) (range_with_len 0 n) → All (λ s. s.bench ≡ bench) seats
of_its_bench bench n seats e =
    let P : Player → Type 0 = λ s. s.bench ≡ bench in
    All-same P seats (map (fresh bench) (range_with_len 0 n)) e (All-map P (fresh bench) (range_with_len 0 n) (λ k d lt. refl))

-- what a bench is opened with is a game
pub set_up : (plan : Plan) (starters starters' : List ℕ) (answers answers' : List Bool) → starters' ≡ starters → answers' ≡ answers → IsSafe (plan_contents plan) → starters_refusal (plan_contents plan) starters ≡ None → IsGame (record { plan = plan_contents plan; starters = starters'; answers = answers' })
set_up plan starters starters' answers answers' b d safe none =
    subst IsGame (λ i. record { plan = plan_contents plan; starters = sym b i; answers = sym d i }) (game_of_starters (plan_contents plan) starters answers (limits_of plan) safe none)

abbrev kept : Setup → Terms
kept setup = record { starters = setup.starters; answers = setup.answers }

-- a table that was told a setup, and what is kept of that, are a bench
pub is_opening : (id : TableId) (key setup : Setup) → key ≡ setup → id.words ≡ SLOTS → IsGame (setup_game setup) → IsBench id key (setup_of key (kept setup))
is_opening id key setup told words valid =
    let same : setup ≡ setup_of key (kept setup) = ap (λ (k : Setup). setup_of k (kept setup)) (sym told) in
    record { told = told ∙ same; words = words; valid = subst (λ (s : Setup). IsGame (setup_game s)) same valid }
