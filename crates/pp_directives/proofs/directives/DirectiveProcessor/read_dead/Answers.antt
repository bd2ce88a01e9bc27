use Rattle.std.proofs.Common.{reverse, false, rules}
use Rattle.pp_model.specs.Blocks.{part_of}
use Rattle.pp_model.specs.Sights.{directive_of}
use Rattle.pp_model.specs.Moves.{directive_move}
use Rattle.pp_macros.specs.inner.OpenBlocks.{facts_among, block_change}
use Rattle.pp_directives.specs.declared.given.Given.TheVariants as given
use Rattle.pp_directives.proofs.NotedLemmas.{word_read, error_passed, error_rest, dead_left, named_stops, or_false}
use Rattle.pp_directives.proofs.SourceActsLemmas.{err_result}
use Rattle.pp_directives.specs.inner.DirectiveHalts.{placed_at}
use Rattle.pp_directives.proofs.directives.DirectiveProcessor.read_dead.Goals as goal

pub returns-in-Ident : goal.returns-in-Ident
returns-in-Ident c =
    let p = c.self.inside in
    let e = c.in-Ok.ensures.reads in
    let acts = rw (c.directive_of-directive.ensures, c.in-Ident.name-is, ← c.self-in-Ident.view_is) at c.in_ok-act_dead-in-Ident.ensures in
    record {
      acts = rw (← c.self.view_is, e.is, c.in-Ident.is, ← e.takes.rest)
          (word_read p.rules p.text (record { text = p.earlier_text; directive = p.earlier_directive }) (reverse p.around.items) p.definitions p.blocks p.line_offset p.has_text p.has_directive p.dead_for_good p.contents p.lexer c.first_token.new.lexer e.takes.rest
          (block_change (part_of (directive_of c.in-Ident.name)) c.in-Ok.token.location)
          (directive_move p.rules false (facts_among p.blocks) (directive_of c.in-Ident.name) c.in-Ok.token.location c.first_token.new.lexer.rest) given.Nothing _ acts.acts);
      holds = search rules;
      errors = search rules;
    }

pub returns-in-Err-Fault : goal.returns-in-Err-Fault
returns-in-Err-Fault c =
    let p = c.self.inside in
    let e = rw c.in-Err-Fault.field-0-is at c.in-Err-Fault.ensures in
    rw (← c.self.view_is)
    (error_passed p.rules p.text (record { text = p.earlier_text; directive = p.earlier_directive }) (reverse p.around.items) p.definitions p.blocks p.line_offset p.has_text p.has_directive p.dead_for_good p.contents p.lexer c.first_token.new.lexer
    c.take_error_place.new.self c.args.hash c.in-Err-Fault.fault e.reads.is e.reads.takes e.reads.errors c.take_error_place.ensures.others c.if-self.true)

pub returns-in-Err : goal.returns-in-Err
returns-in-Err c = search (rules, error_rest)

pub returns-in_err-act_dead-in-Ident : goal.returns-in_err-act_dead-in-Ident
returns-in_err-act_dead-in-Ident c =
    let p = c.self.inside in
    let e = c.in-Ok.ensures.reads in
    let h = c.in_err-act_dead-in-Ident.field-0.0 in
    let acts = rw (c.directive_of-directive.ensures, c.in-Ident.name-is) at c.in_err-act_dead-in-Ident.ensures in
    rw (← c.self.view_is, err_result c.from_residual.result h c.from_residual.ensures.1) (record {
      acts = named_stops p.rules p.text (record { text = p.earlier_text; directive = p.earlier_directive }) (reverse p.around.items) p.definitions p.blocks p.line_offset p.has_text p.has_directive p.dead_for_good p.contents p.lexer c.first_token.new.lexer false c.args.hash c.in-Ok.token c.in-Ident.name false c.act_dead.new.self.has_directive c.act_dead.new.self
          e.takes.rest e.takes.further e.is c.in-Ident.is (dead_left p.rules (facts_among p.blocks) (directive_of c.in-Ident.name) c.in-Ok.token.location c.first_token.new.lexer.rest)
          (or_false c.act_dead.new.self.has_directive) (placed_at p.text h) acts.acts;
      holds = tt;
      errors = search rules;
    })
