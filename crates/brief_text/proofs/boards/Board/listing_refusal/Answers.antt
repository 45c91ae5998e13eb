use Rattle.std.proofs.Common.{◌≡◌, ◌||◌, ◌+◌, ℕ, List, length, true, false, map, refl, ap, sym, ◌∙◌, arith}
use Rattle.std.proofs.lemmas.List.{length-map}
use Rattle.plan_core.specs.NameBytes.{name_bytes}
use Rattle.brief_text.specs.Judging.{have_one_of, sendings}
use Rattle.brief_text.specs.Drafts.{stands_for}
use Rattle.brief_text.specs.Standing.{draft}
use Rattle.brief_text.proofs.BoardLemmas.{listing_judged, sendings_of, more_than, no_more_than}
use Rattle.brief_text.proofs.boards.Board.listing_refusal.Goals as goal

pub returns-then-not-is_message : goal.returns-then-not-is_message
returns-then-not-is_message c =
    sym (listing_judged (draft c.args.self.now) (map name_bytes c.args.has.now) (map name_bytes c.args.given.now) (name_bytes c.args.name.now) false _ _ (sym c.is_message.ensures ∙ c.if-not-is_message.true) refl refl)

pub returns-then-either_has_one_of : goal.returns-then-either_has_one_of
returns-then-either_has_one_of c =
    let has = map name_bytes c.args.has.now in
    let given = map name_bytes c.args.given.now in
    let twice = ap (λ names. have_one_of has names || have_one_of given names) (sym c.requires) ∙ sym c.either_has_one_of.ensures ∙ c.if-either_has_one_of.true in
    sym (listing_judged (draft c.args.self.now) has given (name_bytes c.args.name.now) true true _ (sym c.is_message.ensures ∙ c.if-not-is_message.false) twice refl)

pub returns-then-self-given : goal.returns-then-self-given
returns-then-self-given c =
    let d = draft c.args.self.now in
    let has = map name_bytes c.args.has.now in
    let given = map name_bytes c.args.given.now in
    let name = name_bytes c.args.name.now in
    let fresh = ap (λ names. have_one_of has names || have_one_of given names) (sym c.requires) ∙ sym c.either_has_one_of.ensures ∙ c.if-either_has_one_of.false in
    let before : length given ≡ length c.args.given.now = length-map {B = List ℕ} c.args.given.now name_bytes in
    let more : length (stands_for d name) ≡ length c.args.further.now = ap length (sym c.requires) ∙ length-map {B = List ℕ} c.args.further.now name_bytes in
    let sum : sendings d ≡ c.args.self.now.sendings = sendings_of c.args.self.now.controllers.items ∙ sym c.args.self.now.listed in
    let many = more_than (sendings d + length given + length (stands_for d name)) 512 (omega (arith, c.if-self-given.true, before, more, sum)) in
    sym (listing_judged d has given name true false true (sym c.is_message.ensures ∙ c.if-not-is_message.false) fresh many)

pub returns-else-self-given : goal.returns-else-self-given
returns-else-self-given c =
    let d = draft c.args.self.now in
    let has = map name_bytes c.args.has.now in
    let given = map name_bytes c.args.given.now in
    let name = name_bytes c.args.name.now in
    let fresh = ap (λ names. have_one_of has names || have_one_of given names) (sym c.requires) ∙ sym c.either_has_one_of.ensures ∙ c.if-either_has_one_of.false in
    let before : length given ≡ length c.args.given.now = length-map {B = List ℕ} c.args.given.now name_bytes in
    let more : length (stands_for d name) ≡ length c.args.further.now = ap length (sym c.requires) ∙ length-map {B = List ℕ} c.args.further.now name_bytes in
    let sum : sendings d ≡ c.args.self.now.sendings = sendings_of c.args.self.now.controllers.items ∙ sym c.args.self.now.listed in
    let few = no_more_than (sendings d + length given + length (stands_for d name)) 512 (omega (arith, c.if-self-given.false, before, more, sum)) in
    sym (listing_judged d has given name true false false (sym c.is_message.ensures ∙ c.if-not-is_message.false) fresh few)
