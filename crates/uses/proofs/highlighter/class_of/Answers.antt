use Rattle.std.proofs.Common.{codes, refl}
use Rattle.std.proofs.lemmas.Str.{chars-nil}
use Rattle.uses.proofs.Texts.{chars_same}
use Rattle.uses.proofs.highlighter.class_of.Goals as goal

pub returns-in-Hash : goal.returns-in-Hash
returns-in-Hash c = rw (chars_same (codes "directive") refl) refl

pub returns-in_default : goal.returns-in_default
returns-in_default c = rw chars-nil refl

pub returns-in-Integer : goal.returns-in-Integer
returns-in-Integer c = rw (chars_same (codes "number") refl) refl

pub returns-in-Err : goal.returns-in-Err
returns-in-Err c = rw (chars_same (codes "error") refl) refl
