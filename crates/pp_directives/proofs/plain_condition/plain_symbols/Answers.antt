use Rattle.std.proofs.Common.{◌∙◌, refl, sym}
use Rattle.pp_directives.proofs.PlainConditionLemmas.{symbols_start, symbols_more, symbols_end}
use Rattle.pp_directives.proofs.plain_condition.plain_symbols.Goals as goal

pub words-init : goal.words-init
words-init c = symbols_start c.args.line.now c.args.scope.now.numbering c.args.scope.now.definitions.now c.in_ok-symbols.symbols.items c.args.line.now.tokens
    c.in_ok-symbols.ensures.items refl

pub words-preserved : goal.words-preserved
words-preserved c =
    symbols_more c.args.line.now c.args.scope.now.numbering c.args.scope.now.definitions.now c.words.symbols.items c.push.new.self.items c.words.rest
    c.word_symbol.new.line c.in-Some-word_symbol.symbol c.words.invariant (rw c.in-Some.ensures.takes c.in-Some-word_symbol.ensures.gives)
    c.in_ok-push.ensures.items

pub returns : goal.returns
returns c =
    symbols_end c.args.line.now c.args.scope.now.numbering c.args.scope.now.definitions.now c.words.symbols.items c.words.rest c.words.invariant
    (sym c.in_default.ensures.takes ∙ c.is_over.ensures c.if-not-is_over.false)
