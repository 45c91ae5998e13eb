use Rattle.std.proofs.Common.{◌≡◌, ◌+◌, ℕ, List, Bool, true, false, length, map, inr, refl, ap, sym, ◌∙◌, arith}
use Rattle.std.specs.List.{list_any}
use Rattle.std.proofs.lemmas.List.{length-map}
use Rattle.plan_core.proofs.StepLemmas.{list_any-map}
use Rattle.plan_core.specs.NameBytes.{name_bytes}
use Rattle.plan_core.specs.declared.names.Name.{Name}
use Rattle.brief_text.specs.Drafts.{Draft, member_name, members}
use Rattle.brief_text.specs.declared.syntax.Lengths.{Lengths}
use Rattle.brief_text.specs.Judging.{is_message}
use Rattle.brief_text.specs.Standing.{draft}
use Rattle.brief_text.proofs.BoardLemmas.{range_judged, no_more_than, more_than}
use Rattle.brief_text.proofs.boards.Board.range_refusal.Goals as goal

-- whether one of the messages stands, as the draft sees them
among : (d : Draft) (name : List ℕ) (range : Lengths) (them slice : List Name) (b : Bool) → map name_bytes them ≡ members name range → slice ≡ them → b ≡ list_any (λ n. is_message d (name_bytes n)) slice
    → list_any (is_message d) (members name range) ≡ b
among d name range them slice b are same is =
    ap (list_any (is_message d)) (sym are) ∙ list_any-map (is_message d) name_bytes them ∙ ap (λ ns. list_any (λ n. is_message d (name_bytes n)) ns) (sym same) ∙ sym is

pub returns-then-has_one_of : goal.returns-then-has_one_of
returns-then-has_one_of c = λ at.
    let d = draft c.args.self.now in
    let name = name_bytes c.args.name.now in
    let short = no_more_than (length (member_name name c.args.range.greatest)) 32 (omega (arith, c.if-len-gt32.false, c.len.ensures, ap length c.in_ok-member_text.ensures)) in
    let stands = among d name c.args.range c.in_ok-members.members.items _ true c.in_ok-members.ensures c.as_slice.ensures.value (sym c.if-has_one_of.true ∙ c.has_one_of.ensures) in
    inr (range_judged d name c.args.range c.args.line at false true _ short stands refl)

pub returns-then-self-len : goal.returns-then-self-len
returns-then-self-len c = λ at.
    let d = draft c.args.self.now in
    let name = name_bytes c.args.name.now in
    let short = no_more_than (length (member_name name c.args.range.greatest)) 32 (omega (arith, c.if-len-gt32.false, c.len.ensures, ap length c.in_ok-member_text.ensures)) in
    let fresh = among d name c.args.range c.in_ok-members.members.items _ false c.in_ok-members.ensures c.as_slice.ensures.value (sym c.if-has_one_of.false ∙ c.has_one_of.ensures) in
    let count : length (members name c.args.range) ≡ length c.in_ok-members.members.items = ap length (sym c.in_ok-members.ensures) ∙ length-map {B = List ℕ} c.in_ok-members.members.items name_bytes in
    let many = more_than (length d.plan.messages + length (members name c.args.range)) 256 (omega (arith, count, c.len-2.ensures, c.if-self-len.true, c.args.self.now.counted)) in
    inr (range_judged d name c.args.range c.args.line at false false true short fresh many)

pub returns : goal.returns
returns c = λ at.
    let d = draft c.args.self.now in
    let name = name_bytes c.args.name.now in
    let short = no_more_than (length (member_name name c.args.range.greatest)) 32 (omega (arith, c.if-len-gt32.false, c.len.ensures, ap length c.in_ok-member_text.ensures)) in
    let fresh = among d name c.args.range c.in_ok-members.members.items _ false c.in_ok-members.ensures c.as_slice.ensures.value (sym c.if-has_one_of.false ∙ c.has_one_of.ensures) in
    let count : length (members name c.args.range) ≡ length c.in_ok-members.members.items = ap length (sym c.in_ok-members.ensures) ∙ length-map {B = List ℕ} c.in_ok-members.members.items name_bytes in
    let few = no_more_than (length d.plan.messages + length (members name c.args.range)) 256 (omega (arith, count, c.len-2.ensures, c.if-self-len.false, c.args.self.now.counted)) in
    range_judged d name c.args.range c.args.line at false false false short fresh few
