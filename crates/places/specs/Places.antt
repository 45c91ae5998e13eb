-- A place by its language: the lists of items that may still come in what the participant sends.
use Rattle.message_tree.specs.Texts.{Language}
use Rattle.places.specs.declared.cursor.Place.{Place}
use Rattle.places.specs.Parts.{PartText}

unfoldable pub rest_of : Place → Language
rest_of p u = PartText p.part u
