use Rattle.std.proofs.Common.{◌≡◌, refl, ap, sym, ◌∙◌, get_or, drop, true, false}
use Rattle.std.specs.List.{prefix_len}
use Rattle.lexer.specs.Lexemes.{letters, later, is_word_part, is_sign, is_quote, lexemes_of}
use Rattle.lexer.specs.Lexemes as lexeme
use Rattle.lexer.specs.Reading.{left_of}
use Rattle.lexer.proofs.LexemeLemmas.{class_stray, class_foreign, front_is, none_left, not_skipped, ends_here, sign_here, word_here, string_here, no_string_here, stray_here, foreign_here, symbol_in_place}
use Rattle.lexer.proofs.lexers.Lexer.next.Goals as goal
use Rattle.lexer.proofs.lexers.Lexer.next.Goals.{in-empty, in-len1-up+then-is_sign, in-len1-up+else-is_sign+then-is_part_of_word, in-len1-up+else-is_sign+else-is_part_of_word+then-is_quote+in-None, in-len1-up+else-is_sign+else-is_part_of_word+then-is_quote+in-Some, in-len1-up+else-is_sign+else-is_part_of_word+else-is_quote+then-is_ascii, in-len1-up+else-is_sign+else-is_part_of_word+else-is_quote+else-is_ascii}

pub returns-clause-lexemes : goal.returns-clause-lexemes
returns-clause-lexemes c = λ a now.
    let line = c.skip_blank.new.self.line in
    let rest = c.skip_blank.new.self.rest.now in
    let first = get_or rest 0 0 in
    let mode : c.skip_blank.new.self.letters ≡ letters a = c.skip_blank.ensures.letters ∙ sym now in
    sym (c.skip_blank.ensures.same a now) ∙ elim c.if-self-lt1.branch [
      | in-empty w ↦ ends_here a line rest (none_left rest w.in-empty.len_below) ∙ symbol_in_place _ _ line _ _ w.symbol-is refl
      | in-len1-up+then-is_sign w ↦
          let yes : is_sign (letters a) first ≡ true = ap (λ l. is_sign l first) (sym mode) ∙ sym w.is_sign.ensures ∙ w.if-is_sign.true in
          sign_here a line first rest _ (front_is rest first w.in-len1-up.len_at_least refl) yes ∙ symbol_in_place _ _ line _ _ w.symbol-is (ap (left_of (later a)) w.self-is)
      | in-len1-up+else-is_sign+then-is_part_of_word w ↦
          let part : is_word_part (letters a) first ≡ true = ap (λ l. is_word_part l first) (sym mode) ∙ sym w.is_part_of_word.ensures ∙ w.if-is_part_of_word.true in
          let count = w.word_end.ensures.end ∙ ap (λ l. prefix_len (is_word_part l) rest) mode in
          word_here a line first w.word_end.result rest _ (front_is rest first w.in-len1-up.len_at_least refl) part count
          ∙ ap (λ ws. lexeme.next (lexeme.word ws) line (lexemes_of (later a) line (drop w.word_end.result rest))) (sym w.split_at.ensures.front)
          ∙ symbol_in_place _ _ line _ _ w.symbol-is (ap (left_of (later a)) w.self-is ∙ ap (lexemes_of (later a) line) w.split_at.ensures.back)
      | in-len1-up+else-is_sign+else-is_part_of_word+then-is_quote+in-Some w ↦
          let front = front_is rest first w.in-len1-up.len_at_least refl in
          let quotes : is_quote (letters a) first ≡ true = ap (λ l. is_quote l first) (sym mode) ∙ sym w.is_quote.ensures ∙ w.if-is_quote.true in
          string_here a line first w.in-Some.end rest _ front quotes (sym w.string_end.ensures.end ∙ w.in-Some.is)
          ∙ ap (λ ws. lexeme.next (lexeme.word ws) line (lexemes_of (later a) line (drop w.in-Some.end rest))) (sym w.split_at-in-Some.ensures.front)
          ∙ symbol_in_place _ _ line _ _ w.symbol-is (ap (left_of (later a)) w.self-is ∙ ap (lexemes_of (later a) line) w.split_at-in-Some.ensures.back)
      | in-len1-up+else-is_sign+else-is_part_of_word+then-is_quote+in-None w ↦
          let front = front_is rest first w.in-len1-up.len_at_least refl in
          let quotes : is_quote (letters a) first ≡ true = ap (λ l. is_quote l first) (sym mode) ∙ sym w.is_quote.ensures ∙ w.if-is_quote.true in
          no_string_here a line first rest _ front quotes (sym w.string_end.ensures.end ∙ w.in-None.is) ∙ symbol_in_place _ _ line _ _ w.symbol-is refl
      | in-len1-up+else-is_sign+else-is_part_of_word+else-is_quote+then-is_ascii w ↦
          let front = front_is rest first w.in-len1-up.len_at_least refl in
          let no_sign : is_sign (letters a) first ≡ false = ap (λ l. is_sign l first) (sym mode) ∙ sym w.is_sign.ensures ∙ w.if-is_sign.false in
          let no_part : is_word_part (letters a) first ≡ false = ap (λ l. is_word_part l first) (sym mode) ∙ sym w.is_part_of_word.ensures ∙ w.if-is_part_of_word.false in
          let no_quote : is_quote (letters a) first ≡ false = ap (λ l. is_quote l first) (sym mode) ∙ sym w.is_quote.ensures ∙ w.if-is_quote.false in
          let class = class_stray (letters a) first (not_skipped first rest _ front c.skip_blank.ensures.here) no_sign no_part no_quote (sym w.is_ascii.ensures ∙ w.if-is_ascii.true) in
          stray_here a line first rest _ front class ∙ symbol_in_place _ _ line _ _ w.symbol-is refl
      | in-len1-up+else-is_sign+else-is_part_of_word+else-is_quote+else-is_ascii w ↦
          let front = front_is rest first w.in-len1-up.len_at_least refl in
          let class = class_foreign (letters a) first (sym w.is_ascii.ensures ∙ w.if-is_ascii.false) in
          foreign_here a line first rest _ front class ∙ symbol_in_place _ _ line _ _ w.symbol-is refl
    ]
