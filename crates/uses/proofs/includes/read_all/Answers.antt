use Rattle.std.proofs.Common.{List, ℕ, map, refl}
use Rattle.pp_rs.specs.Kept.{rules_of}
use Rattle.uses.specs.Includes.{file_of}
use Rattle.uses.specs.declared.includes.SourceFile.{SourceFile}
use Rattle.uses.proofs.Included.{none_came, token_came, file_came, all_came}
use Rattle.uses.proofs.includes.read_all.Goals as goal

pub loop-init : goal.loop-init
loop-init c = rw (c.in_ok-push.ensures.items, c.new-read.ensures.items, c.new-tokens.ensures.items)
    (none_came (file_of c.args.files.now) (rules_of c.args.pp.now) c.args.source.text.now c.args.pp.now c.requires.unspent refl c.requires.start)

pub returns-in_default : goal.returns-in_default
returns-in_default c =
    let text_of : SourceFile → List ℕ = λ t. t.text.now in
    all_came (file_of c.args.files.now) (rules_of c.args.pp.now) c.args.source.text.now c.loop.pp c.next.new.self (map text_of c.loop.read.items)
    c.loop.tokens.items c.loop.invariant c.in_default.ensures.steps

pub loop-preserved-in-Ok : goal.loop-preserved-in-Ok
loop-preserved-in-Ok c =
    let text_of : SourceFile → List ℕ = λ t. t.text.now in
    rw c.in_ok-push-in-Ok.ensures.items
    (token_came (file_of c.args.files.now) (rules_of c.args.pp.now) c.args.source.text.now c.loop.pp c.next.new.self (map text_of c.loop.read.items)
    c.loop.tokens.items c.loop.invariant c.in-Ok.token (rw c.in-Ok.is at c.in-Some.ensures.steps))

pub loop-preserved : goal.loop-preserved
loop-preserved c =
    let text_of : SourceFile → List ℕ = λ t. t.text.now in
    file_came (file_of c.args.files.now) (rules_of c.args.pp.now) c.args.source.text.now c.loop.pp c.next.new.self (map text_of c.loop.read.items)
    c.loop.tokens.items c.loop.invariant (c.in-Err.error, c.in-Err.field-0-1) c.include_asked-included.new.pp
    (map text_of c.include_asked-included.new.read.items) (rw c.in-Err.is at c.in-Some.ensures.steps) c.in_ok-included.ensures.memory
    c.in_ok-included.ensures.included
