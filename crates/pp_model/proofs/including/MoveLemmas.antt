-- What the table of directives says of an item or a line: how far it goes, and on what it depends.
use Rattle.std.proofs.Common.{◌≡◌, ◌+◌, ◌≤◌, Bool, true, false, not, if◌then◌else◌, ◌&&◌, List, [], ◌∷◌, drop, length, refl, ap, arith, Option, Some, None}
use Rattle.std.specs.Prelude.{Result, Ok, Err}
use Rattle.pp_lexer.specs.Items.{Lexeme}
use Rattle.pp_lexer.specs.Lexed.{Seen}
use Rattle.pp_lexer.specs.declared.lexer.item.Token.{Token as LexerToken}
use Rattle.pp_lexer.specs.declared.rules.Rules.{Rules}
use Rattle.pp_lexer.specs.declared.token.Location.{Location}
use Rattle.pp_lexer.specs.declared.token.Token.{Token}
use Rattle.pp_model.specs.Places.{Fault}
use Rattle.pp_model.specs.Names.{Name}
use Rattle.pp_model.specs.Conversions.{is_newline, is_hash, identifier_of, conversion, refused_token}
use Rattle.pp_model.specs.Lines.{first_token}
use Rattle.pp_model.specs.Sights.{sight_of, sight_from, named_directive, token_sight, is_directive_hash}
use Rattle.pp_model.specs.Moves.{BlockFacts, ends, Move, failing, passing, directive_move, error_length, move_at}
use Rattle.pp_model.specs.declared.directive.Directive.{Directive}
use Rattle.pp_model.specs.declared.directive.Directive.TheVariants as d
use Rattle.pp_model.specs.declared.sight.Sight.{Sight}
use Rattle.pp_model.specs.declared.sight.Sight.TheVariants as sight
use Rattle.pp_model.proofs.source.MovesLemmas.{directive_holds}
use Rattle.pp_model.proofs.including.LineFrontLemmas.{HasLine, shown_newline}
use Rattle.pp_model.proofs.including.LinePartFrontLemmas.{line_length_within}

-- ---- how far it goes

-- a directive's line has no more items than there are
directive_within : (rules : Rules) (live : Bool) (block : Option BlockFacts) (directive : Directive) (word : Location) (after : List Seen)
    → (directive_move rules live block directive word after).taken ≤ length after
directive_within rules live block directive word after =
    directive_holds (λ move. move.taken ≤ length after) rules block word after live directive (record {
      failing = λ fault. omega arith;
      refusing = λ fault. line_length_within after;
      unknown = λ dead its. omega arith;
      passing = λ why. line_length_within after;
      items = λ its plain value is. line_length_within after;
      asking = λ its is. line_length_within after;
      defining = λ its plain named is. line_length_within after;
      undefining = λ its plain name. line_length_within after;
      numbering = λ its plain tokens. line_length_within after;
      testing = λ its opens holds name. line_length_within after;
      deciding = λ why tokens. line_length_within after;
    })

-- nor do two items or more have less than what stands in front takes
two_within : (rules : Rules) (live : Bool) (facts : Option BlockFacts) (shown : Sight) (s t : Seen) (rest : List Seen)
    → (move_at rules live facts shown (s ∷ t ∷ rest)).taken ≤ length (s ∷ t ∷ rest)
two_within rules live facts sight.End s t rest = omega arith
two_within rules live facts sight.NewLine s t rest = omega arith
two_within rules live facts (sight.Fault fault) s t rest = by (not live && rules.passes_dead_errors) (is_directive_hash s.item)
  where
    by : (passed hash : Bool) → (if passed then passing (if hash then 2 else 1) else failing fault).taken ≤ length (s ∷ t ∷ rest)
    by true true = omega arith
    by true false = omega arith
    by false hash = omega arith
two_within rules true facts (sight.Token token) s t rest = omega arith
two_within rules false facts (sight.Token token) s t rest = omega arith
two_within rules true facts (sight.Hash location) s t rest = omega arith
two_within rules false facts (sight.Hash location) s t rest = omega arith
two_within rules live facts sight.Lone s t rest = omega arith
two_within rules true facts (sight.NoWord fault) s t rest = omega arith
two_within rules false facts (sight.NoWord fault) s t rest = omega arith
two_within rules live facts (sight.Directive directive word) s t rest = omega (arith, directive_within rules live facts directive word rest)

-- what stands in front takes no more items than there are
pub move_within : (rules : Rules) (live : Bool) (facts : Option BlockFacts) (rest : List Seen) → HasLine rest
    → (move_at rules live facts (sight_of rest) rest).taken ≤ length rest
move_within rules live facts [] h = cc
move_within rules live facts (s ∷ []) h = rw (shown_newline s [] h) (omega arith)
move_within rules live facts (s ∷ t ∷ rest) h = two_within rules live facts (sight_of (s ∷ t ∷ rest)) s t rest

-- ---- which blocks are open

-- the directive parts or closes a block
abbrev pub parts_or_closes : Directive → Bool
parts_or_closes d.Elif = true
parts_or_closes d.Else = true
parts_or_closes d.Endif = true
parts_or_closes _ = false

-- a directive that parts or closes a block stands there
abbrev pub parts_or_closes_block : Sight → Bool
parts_or_closes_block (sight.Directive directive word) = parts_or_closes directive
parts_or_closes_block _ = false

-- other directives are the same in any block
directive_any_facts : (rules : Rules) (live : Bool) (f g : Option BlockFacts) (directive : Directive) (word : Location) (after : List Seen)
    → parts_or_closes directive ≡ false → directive_move rules live f directive word after ≡ directive_move rules live g directive word after
directive_any_facts rules live f g d.Elif word after h = cc
directive_any_facts rules live f g d.Else word after h = cc
directive_any_facts rules live f g d.Endif word after h = cc
directive_any_facts rules true f g _ word after h = refl
directive_any_facts rules false f g _ word after h = refl

-- only such a directive depends on the innermost block
pub move_any_facts : (rules : Rules) (live : Bool) (f g : Option BlockFacts) (rest : List Seen) → parts_or_closes_block (sight_of rest) ≡ false
    → move_at rules live f (sight_of rest) rest ≡ move_at rules live g (sight_of rest) rest
move_any_facts rules live f g rest h = by (sight_of rest) h
  where
    by : (shown : Sight) → parts_or_closes_block shown ≡ false → move_at rules live f shown rest ≡ move_at rules live g shown rest
    by (sight.Directive directive word) e =
        ap (λ (line : Move). record line { taken = 2 + line.taken }) (directive_any_facts rules live f g directive word (drop 2 rest) e)
    by _ e = refl

-- ---- the end

-- an item that is there is not the end
word_is_there : (token : LexerToken) (name : Option Name) → named_directive token name ≡ sight.End → ⊥
word_is_there token (Some name) e = cc
word_is_there token None e = by (is_newline token.value) e
  where
    by : (newline : Bool) → (if newline then sight.Lone else sight.NoWord (refused_token token)) ≡ sight.End → ⊥
    by true e = cc
    by false e = cc

directive_is_there : (next : Result LexerToken Fault) → sight_from (λ word. named_directive word (identifier_of word.value)) next ≡ sight.End → ⊥
directive_is_there (Ok token) e = word_is_there token (identifier_of token.value) e
directive_is_there (Err fault) e = cc

token_is_there : (newline hash at_start : Bool) (named : Sight) (place : Location) (text : Result Token Fault) → (named ≡ sight.End → ⊥)
    → (if newline then sight.NewLine else if hash then (if at_start then named else sight.Hash place) else sight_from sight.Token text) ≡ sight.End → ⊥
token_is_there true hash at_start named place text named_there e = cc
token_is_there false true true named place text named_there e = named_there e
token_is_there false true false named place text named_there e = cc
token_is_there false false at_start named place (Ok token) named_there e = cc
token_is_there false false at_start named place (Err fault) named_there e = cc

item_is_there : (item : Lexeme) (rest : List Seen) → sight_from (λ token. token_sight token rest) item ≡ sight.End → ⊥
item_is_there (Ok token) rest e =
    token_is_there (is_newline token.value) (is_hash token.value) token.start_of_line _ token.location (conversion token)
    (directive_is_there (first_token token.location rest)) e
item_is_there (Err fault) rest e = cc

-- so at the end nothing is left
pub seen_end : (rest : List Seen) → sight_of rest ≡ sight.End → rest ≡ []
seen_end [] e = refl
seen_end (s ∷ rest) e = absurd (item_is_there s.item rest e)

-- a directive's line is not the end
directive_goes_on : (rules : Rules) (live : Bool) (block : Option BlockFacts) (directive : Directive) (word : Location) (after : List Seen)
    → (directive_move rules live block directive word after).effect ≡ ends → ⊥
directive_goes_on rules live block directive word after =
    directive_holds (λ move. move.effect ≡ ends → ⊥) rules block word after live directive (record {
      failing = λ fault e. cc;
      refusing = λ fault e. cc;
      unknown = λ dead its e. cc;
      passing = λ why e. cc;
      items = λ its plain value is e. cc;
      asking = λ its is e. cc;
      defining = λ its plain named is e. cc;
      undefining = λ its plain name e. cc;
      numbering = λ its plain tokens e. cc;
      testing = λ its opens holds name e. cc;
      deciding = λ why tokens e. cc;
    })

-- only where nothing is left is it the end
pub ends_at_end : (rules : Rules) (live : Bool) (facts : Option BlockFacts) (rest : List Seen)
    → (move_at rules live facts (sight_of rest) rest).effect ≡ ends → rest ≡ []
ends_at_end rules live facts rest e = by live (sight_of rest) refl e
  where
    dead_error : (passed : Bool) (fault : Fault) → (if passed then passing (error_length rest) else failing fault).effect ≡ ends → ⊥
    dead_error true fault h = cc
    dead_error false fault h = cc

    by : (live : Bool) (shown : Sight) → sight_of rest ≡ shown → (move_at rules live facts shown rest).effect ≡ ends → rest ≡ []
    by live sight.End there h = seen_end rest there
    by live sight.NewLine there h = cc
    by live (sight.Fault fault) there h = absurd (dead_error (not live && rules.passes_dead_errors) fault h)
    by live sight.Lone there h = cc
    by live (sight.Directive directive word) there h = absurd (directive_goes_on rules live facts directive word (drop 2 rest) h)
    by true _ there h = cc
    by false _ there h = cc
