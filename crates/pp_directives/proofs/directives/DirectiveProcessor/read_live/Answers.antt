use Rattle.std.proofs.Common.{◌≡◌, reverse, true, rules, refl, ap, Bool, ◌||◌}
use Rattle.pp_model.specs.Blocks.{part_of}
use Rattle.pp_model.specs.Sights.{directive_of}
use Rattle.pp_model.specs.Moves.{directive_move}
use Rattle.pp_macros.specs.inner.OpenBlocks.{facts_among, block_change}
use Rattle.pp_directives.proofs.NotedLemmas.{word_read, error_noted, item_left, named_stops}
use Rattle.pp_directives.proofs.SourceActsLemmas.{err_result}
use Rattle.pp_directives.specs.inner.DirectiveHalts.{of_line, placed_at, shown}
use Rattle.pp_directives.specs.inner.SourceActs.{is_item}
use Rattle.pp_directives.proofs.directives.DirectiveProcessor.read_live.Goals as goal

pub returns-in-Ok : goal.returns-in-Ok
returns-in-Ok c =
    let p = c.self.inside in
    let e = c.in_ok-token.ensures.reads in
    let gives = rw (c.directive_of-directive.ensures, c.in-Ident.name-is, ← c.self-in-Ident.view_is) at c.in-Ok.ensures in
    record {
      acts = rw (← c.self.view_is, e.is, c.in-Ident.is, ← e.takes.rest)
          (word_read p.rules p.text (record { text = p.earlier_text; directive = p.earlier_directive }) (reverse p.around.items) p.definitions p.blocks p.line_offset p.has_text p.has_directive p.dead_for_good p.contents p.lexer c.first_token.new.lexer e.takes.rest
          (block_change (part_of (directive_of c.in-Ident.name)) c.in_ok-token.token.location)
          (directive_move p.rules true (facts_among p.blocks) (directive_of c.in-Ident.name) c.in_ok-token.token.location c.first_token.new.lexer.rest) c.in-Ok.given _ gives.acts);
      holds = search rules;
      errors = search rules;
    }

pub returns-in_err-token : goal.returns-in_err-token
returns-in_err-token c =
    let p = c.self.inside in
    rw (← c.self.view_is, err_result c.from_residual.result (of_line c.in_err-token.field-0.0) c.from_residual.ensures.1)
    (error_noted (shown p.text) _ p.rules p.text (record { text = p.earlier_text; directive = p.earlier_directive }) (reverse p.around.items) p.definitions p.blocks p.line_offset p.has_text p.has_directive p.dead_for_good p.contents p.lexer c.first_token.new.lexer true c.args.hash c.in_err-token.field-0.0 (λ fault is. refl) c.in_err-token.ensures.reads)

pub returns-in-Err : goal.returns-in-Err
returns-in-Err c =
    let p = c.self.inside in
    let e = c.in_ok-token.ensures.reads in
    let gives = rw (c.directive_of-directive.ensures, c.in-Ident.name-is, ← c.self-in-Ident.view_is) at c.in-Err.ensures in
    let counts : c.is_item.result ≡ is_item (directive_of c.in-Ident.name) = rw (c.directive_of-directive.ensures, c.in-Ident.name-is) at c.is_item.ensures in
    let after = c.self-in-Ident.inside in
    rw (← c.self.view_is) (record {
      acts = named_stops p.rules p.text (record { text = p.earlier_text; directive = p.earlier_directive }) (reverse p.around.items) p.definitions p.blocks p.line_offset p.has_text p.has_directive p.dead_for_good p.contents p.lexer c.first_token.new.lexer true c.args.hash c.in_ok-token.token c.in-Ident.name (is_item (directive_of c.in-Ident.name)) (after.has_directive || c.is_item.result) _
          e.takes.rest e.takes.further e.is c.in-Ident.is (item_left p.rules (facts_among p.blocks) (directive_of c.in-Ident.name) c.in_ok-token.token.location c.first_token.new.lexer.rest)
          (ap (λ (b : Bool). after.has_directive || b) counts) (placed_at p.text c.in-Err.halt) gives.acts;
      holds = tt;
      errors = search rules;
    })
