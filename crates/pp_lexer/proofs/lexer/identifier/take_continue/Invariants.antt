use Rattle.std.proofs.Common.{◌≡◌, ◌++◌, length, take}
use Rattle.unicode_ident.specs.Ident.{is_xid_continue}
use Rattle.pp_lexer.specs.Longest.{front_len}
use Rattle.pp_lexer.specs.Reading.{letters, advanced}
use Rattle.pp_lexer.proofs.lexer.identifier.take_continue.Given as goal

-- the text with the characters still to come, and the reader after those, stay the same
abbrev pub invariant-letters : goal.invariant-letters
invariant-letters l = record {
  text : l.text ++ take (front_len is_xid_continue (letters l.inner.rest)) (letters l.inner.rest)
      ≡ l.fn.text ++ take (front_len is_xid_continue (letters l.fn.inner.rest)) (letters l.fn.inner.rest);
  state : advanced (front_len is_xid_continue (letters l.inner.rest)) l.inner ≡ advanced (front_len is_xid_continue (letters l.fn.inner.rest)) l.fn.inner;
}

abbrev pub decreases-letters : goal.decreases-letters
decreases-letters l = length l.inner.rest
