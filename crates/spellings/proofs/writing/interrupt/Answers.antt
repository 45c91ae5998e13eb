use Rattle.std.proofs.Common.{◌≡◌, ◌++◌, ◌∷◌, [], OnOk, codes, string_bytes, subst}
use Rattle.spellings.specs.Canonical.{item_line}
use Rattle.spellings.specs.Spelling.{target_word}
use Rattle.spellings.proofs.WritingLemmas.{interrupt_target, line_made}
use Rattle.spellings.proofs.writing.interrupt.Goals as goal

pub returns : goal.returns
returns c =
    subst (λ w. OnOk c.end.result (string_bytes c.end.new.text ≡ string_bytes c.args.text.now ++ item_line (codes "interrupt") (c.args.name.now ∷ (w ∷ []))))
    (interrupt_target c.new.result c.args.target c.new.ensures)
    (line_made c.end.result (string_bytes c.args.text.now) (string_bytes c.push_str.new.self) (string_bytes c.word.new.text) (string_bytes c.address.new.text) (string_bytes c.end.new.text) (codes "interrupt") c.args.name.now (target_word c.new.result)
    c.in_ok-push_str.ensures.bytes c.in_ok-word.ensures c.in_ok-address.ensures c.end.ensures)
