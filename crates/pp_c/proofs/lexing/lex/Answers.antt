use Rattle.std.proofs.Common.{ap, arith}
use Rattle.pp_rs.specs.Lexed.{Lexed}
use Rattle.pp_c.proofs.LexLemmas.{lexes_none, lexes_more}
use Rattle.pp_c.specs.inner.Making.{IsSmall}
use Rattle.pp_c.proofs.lexing.lex.Goals as goal

pub items-init : goal.items-init
items-init c = lexes_none c.new-lexer.result c.args.output.now (ap (λ (l : Lexed). l.spent) c.new-lexer.ensures)

pub items-preserved : goal.items-preserved
items-preserved c =
    let takes = c.items.invariant.takes in
    let small : IsSmall c.items.output = record { items = omega (arith, takes.items_room); texts = omega (arith, takes.texts_room) } in
    let given = c.in_ok-give_item.ensures {u = tt} in
    lexes_more c.new-lexer.result c.items.lexer c.next.new.self c.args.output.now c.items.output c.items.invariant c.give_item.new.output c.in-Some.item small
    c.in-Some.ensures.steps given.reported (rw c.place.ensures at given.given)
