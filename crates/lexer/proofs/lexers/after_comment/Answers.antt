use Rattle.std.proofs.Common.{◌-◌, ap, sym, ◌∙◌, arith, length, drop}
use Rattle.std.specs.List.{prefix_len}
use Rattle.lexer.specs.Fronts.{is_comment_part}
use Rattle.std.proofs.lemmas.List.{take_all, length-drop}
use Rattle.lexer.specs.Lexemes.{lexemes_of}
use Rattle.lexer.proofs.LexemeLemmas.{comment_ends}
use Rattle.lexer.proofs.lexers.after_comment.Goals as goal

pub returns-clause-lexemes : goal.returns-clause-lexemes
unfolding lexemes_of
returns-clause-lexemes c =
    let end = c.comment_end.result in
    let bytes = c.args.bytes.now in
    let whole = take_all (length bytes - end) (drop end bytes) (simp length-drop (omega arith)) in
    λ a line by. ap (lexemes_of a line) (whole ∙ ap (λ n. drop n bytes) (c.comment_end.ensures.end ∙ ap (λ l. prefix_len (is_comment_part l) bytes) (sym by))) ∙ comment_ends a line bytes
