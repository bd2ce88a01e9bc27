use Rattle.std.proofs.Common.{◌≡◌, ◌∷◌, take}
use Rattle.unicode_ident.specs.Ident.{is_xid_continue}
use Rattle.pp_lexer.specs.Longest.{front_len}
use Rattle.pp_lexer.specs.Reading.{letters}
use Rattle.pp_lexer.proofs.words.IdentifiersLemmas.{identifier_read}
use Rattle.pp_lexer.proofs.lexer.identifier.parse_identifier.Goals as goal

pub returns-clause-text : goal.returns-clause-text
returns-clause-text c =
    let n = c.next_char.new.self.rest in
    let e : c.take_continue.new.text ≡ c.in-Some.first ∷ take (front_len is_xid_continue (letters n)) (letters n) =
    rw (c.in_ok-push.ensures.ok, c.new-text.ensures) at c.in_ok-take_continue.ensures.text in
    (identifier_read _ _ _ _ _ _ c.requires c.in-Some.ensures.value c.in-Some.ensures.state e c.in_ok-take_continue.ensures.state).text

pub returns-clause-state : goal.returns-clause-state
returns-clause-state c =
    let n = c.next_char.new.self.rest in
    let e : c.take_continue.new.text ≡ c.in-Some.first ∷ take (front_len is_xid_continue (letters n)) (letters n) =
    rw (c.in_ok-push.ensures.ok, c.new-text.ensures) at c.in_ok-take_continue.ensures.text in
    (identifier_read _ _ _ _ _ _ c.requires c.in-Some.ensures.value c.in-Some.ensures.state e c.in_ok-take_continue.ensures.state).state
