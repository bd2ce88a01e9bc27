use Rattle.std.proofs.lemmas.Str.{encodes-chars}
use Rattle.pp_lexer.proofs.spelling.ItemTextLemmas.{punctuator_bytes}
use Rattle.pp_lexer.proofs.token.spelling.write_word.Goals as goal

pub returns-in-Ident : goal.returns-in-Ident
returns-in-Ident g c = λ plain ok.
    rw (c.in-Ident.is, ← c.as_str.ensures, encodes-chars _ c.as_str.utf8) (c.write_str.ensures.writes plain ok)

pub returns-in-Integer : goal.returns-in-Integer
returns-in-Integer g c = λ plain ok. rw c.in-Integer.is (c.write_integer.ensures plain ok)

pub returns-in-Float : goal.returns-in-Float
returns-in-Float g c = λ plain ok. rw c.in-Float.is (c.write_float.ensures plain ok)

pub returns-in-Punct : goal.returns-in-Punct
returns-in-Punct g c = λ plain ok.
    rw (c.in-Punct.is, punctuator_bytes c.in-Punct.punct, ← c.spelling.ensures) (c.write_str-in-Punct.ensures.writes plain ok)
