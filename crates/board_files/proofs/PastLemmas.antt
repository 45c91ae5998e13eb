-- Files that were passed, one after another, and what that makes of those after them.
use Rattle.std.proofs.Common.{◌≡◌, ℕ, ◌+◌, ◌<◌, ◌≤◌, List, [], ◌∷◌, ◌++◌, length, get_or, drop, append-nil, append_assoc, refl, sym, subst, ap, ◌∙◌}
use Rattle.std.proofs.lemmas.List.{drop_all, drop_more}
use Rattle.board_files.specs.Given.{given, all_given}
use Rattle.board_files.specs.declared.lists.GivenText.{GivenText}
use Rattle.std.specs.Prelude.{Result, Ok}
use Rattle.brief_tokens.specs.Heads.{next_file, after_file, names}
use Rattle.brief_tokens.specs.Tokens.{Tokens}
use Rattle.board_files.specs.Files.{Files}
use Rattle.board_files.specs.Lists as spec
use Rattle.board_files.specs.Progress.{AddsGiven, stood, added, StopsGiven, Past, PastGiven}
use Rattle.board_files.specs.declared.openers.FileId.{FileId}

module _ {D : Type 0} (files : Files D) where
  pub past_none : (folder : List ℕ) (from : Tokens) (known : List FileId) (before : D) → Past files folder from known before [] from known before
  past_none folder from known before = record { lists = λ texts last after l. l; stops = λ text stop after s. s }

  pub past_one : (folder name : List ℕ) (line : ℕ) (from here rest more : Tokens) (known known_now last : List FileId) (before now next : D) (some texts : List spec.Listed) →
      Past files folder from known before some here known_now now →
      next_file here ≡ names name line rest →
      spec.Adds files (spec.path_from folder name) known_now now texts last next →
      after_file rest ≡ Ok more →
      Past files folder from known before (some ++ texts) more last next
  past_one folder name line from here rest more known known_now last before now next some texts p named adds ended = record {
    lists = λ others end after l.
        subst (λ all. spec.Lists files folder from known before all end after) (sym (append_assoc some texts others))
        (p.lists (texts ++ others) end after (spec.one_file named adds ended l));
    stops = λ text stop after s. p.stops text stop after (spec.later named adds ended s);
  }

  pub given_none : (given : List spec.Given) (known : List FileId) (before : D) → PastGiven files given known before [] given known before
  given_none given known before = record { lists = λ texts after l. l; stops = λ stop after s. s }

  lists_one : (text : spec.Given) (rest : List spec.Given) (known known_now : List FileId) (before now after : D) (texts others : List spec.Listed) →
      AddsGiven files text known before texts known_now now → spec.ListsAll files rest known_now now others after → spec.ListsAll files (text ∷ rest) known before (texts ++ others) after
  lists_one text rest known _ before _ after _ others (stood is) l = spec.stands is l
  lists_one text rest known known_now before now after texts others (added new adds) l = spec.one_text new adds l

  stops_later : (text : spec.Given) (rest : List spec.Given) (known known_now : List FileId) (before now after : D) (texts : List spec.Listed) (stop : spec.Stop) →
      AddsGiven files text known before texts known_now now → spec.StopsAll files rest known_now now stop after → spec.StopsAll files (text ∷ rest) known before stop after
  stops_later text rest known _ before _ after _ stop (stood is) s = spec.passed_over is s
  stops_later text rest known known_now before now after texts stop (added new adds) s = spec.further new adds s

  pub given_one : (given rest : List spec.Given) (text : spec.Given) (known known_now last : List FileId) (before now next : D) (some texts : List spec.Listed) →
      PastGiven files given known before some (text ∷ rest) known_now now →
      AddsGiven files text known_now now texts last next →
      PastGiven files given known before (some ++ texts) rest last next
  given_one given rest text known known_now last before now next some texts p adds = record {
    lists = λ others after l.
        subst (λ all. spec.ListsAll files given known before all after) (sym (append_assoc some texts others))
        (p.lists (texts ++ others) after (lists_one text rest known_now last now next after texts others adds l));
    stops = λ stop after s. p.stops stop after (stops_later text rest known_now last now next after texts stop adds s);
  }

  pub given_all : (given : List spec.Given) (known known_now : List FileId) (before now : D) (some : List spec.Listed) →
      PastGiven files given known before some [] known_now now → spec.ListsAll files given known before some now
  given_all given known known_now before now some p =
      subst (λ all. spec.ListsAll files given known before all now) (append-nil some) (p.lists [] now spec.no_text)

  pub given_stops : (given rest : List spec.Given) (text : spec.Given) (known known_now : List FileId) (before now after : D) (some : List spec.Listed) (stop : spec.Stop) →
      PastGiven files given known before some (text ∷ rest) known_now now →
      StopsGiven files text known_now now stop after →
      spec.StopsAll files given known before stop after
  given_stops given rest text known known_now before now after some stop p s = p.stops stop after (spec.at_text s.new s.stops)

-- one more of the texts that were given
pub one_given : (texts : List GivenText) (n : ℕ) (text : GivenText) → n < length texts → text ≡ get_or texts n text →
    all_given (drop n texts) ≡ given text ∷ all_given (drop (n + 1) texts)
one_given texts n text within is = ap all_given (drop_more texts n text within) ∙ ap (λ t. given t ∷ all_given (drop (n + 1) texts)) (sym is)

pub none_given : (texts : List GivenText) (n : ℕ) → length texts ≤ n → all_given (drop n texts) ≡ []
none_given texts n past = ap all_given (drop_all n texts past)
