-- Only an `#include` line asks for a text: no call's fault does, nor what an expander gives if its reader never asks; and if
-- the reader asks, the expander does so where the reader did.
use Rattle.std.proofs.Common.{◌≡◌, ℕ, zero, suc, Bool, true, false, if◌then◌else◌, List, [], drop, refl, ap, sym, Option, Some, None}
use Rattle.std.specs.Prelude.{⊤, IfSome, MatchOption, Result, Ok, Err}
use Rattle.std.specs.Option.{option_map_or}
use Rattle.pp_lexer.specs.Lexed.{Seen}
use Rattle.pp_lexer.specs.declared.rules.Rules.{Rules}
use Rattle.pp_lexer.specs.declared.token.Integer.{Integer}
use Rattle.pp_lexer.specs.declared.token.Location.{Location}
use Rattle.pp_lexer.specs.declared.token.PreprocessorError.{PreprocessorError}
use Rattle.pp_model.specs.declared.place.Place.{Place}
use Rattle.pp_model.specs.Places.{PlacedFault, place_of, place_in, fault_in}
use Rattle.pp_model.specs.Names.{Name, is_identifier, line_name}
use Rattle.pp_model.specs.Definitions.{Definition, Definitions}
use Rattle.pp_model.specs.SpliceList.{outermost_call}
use Rattle.pp_model.specs.Painting.{taken_among}
use Rattle.pp_model.specs.Reading.{Reading, Expander, masked_names, Opening, opening, argument_reading, reading_of}
use Rattle.pp_model.specs.Taking.{line_number, shown_token, shown_outcome, Takes, Fetches, held, listed, read}
use Rattle.pp_model.specs.Calls.{Gathered, before, Gathers, closed, inside, overfull, ended, failed, Answers, Called, no_call, refused, fits, is_left_paren, paren_at, called_by, Calls, alone, broken, whole, Site, misfit, site_of}
use Rattle.pp_model.specs.Emitting.{with_macro, found_among, Emits, itself, object, name_alone, call_refused, call, Collects, done, failed as failing, item, first_before, Alones, Each, none, first_failed, more, answers_by, alone_by, ExpandsArguments, answers_at}
use Rattle.pp_model.specs.Moves.{BlockFacts, Effect, asks, failing as failing_with, passing, directive_move, error_length, move_at}
use Rattle.pp_model.specs.declared.directive.Directive.{Directive}
use Rattle.pp_model.specs.declared.directive.Directive.TheVariants as d
use Rattle.pp_model.specs.declared.numbering.Numbering.{Numbering}
use Rattle.pp_model.specs.declared.read.Read.{Read}
use Rattle.pp_model.specs.declared.read.Taken.{Taken}
use Rattle.pp_model.specs.declared.read.Taken.TheVariants as taken
use Rattle.pp_model.specs.declared.sight.Sight.{Sight}
use Rattle.pp_model.specs.declared.sight.Sight.TheVariants as sight
use Rattle.pp_model.specs.declared.splice.CallPlace.{CallPlace}
use Rattle.pp_model.specs.declared.splice.Entry.{Entry}
use Rattle.pp_model.proofs.source.MovesLemmas.{directive_holds}

-- the fault asks for no text
abbrev pub AsksNothing : PlacedFault → Type 0
AsksNothing fault = fault.1.asks ≡ None

-- if what is taken is a fault, it is one of these
abbrev pub IsTakenWith : (PlacedFault → Type 0) → Taken → Type 0
IsTakenWith Allowed (taken.Fault fault) = Allowed fault
IsTakenWith Allowed _ = ⊤

-- what is taken asks for none
abbrev pub IsTakenUnasked : Taken → Type 0
IsTakenUnasked x = IsTakenWith AsksNothing x

-- nor does what is held, if anything is
abbrev pub HoldsUnasked : {R : Type 0} → Expander R → Type 0
HoldsUnasked e = IfSome e.held IsTakenUnasked

-- if there is a fault in place of a value, it asks for none
abbrev pub IsUnaskedIfFault : {X : Type 0} → Result X PlacedFault → Type 0
IsUnaskedIfFault (Ok x) = ⊤
IsUnaskedIfFault (Err fault) = AsksNothing fault

-- of what comes after a macro's name, what was taken in place of a call may be one of these faults, and a call asks for none
abbrev pub IsCalledWith : (PlacedFault → Type 0) → Called → Type 0
IsCalledWith Allowed (no_call o) = IsTakenWith Allowed o
IsCalledWith Allowed (refused fault) = AsksNothing fault
IsCalledWith Allowed (fits arguments line) = ⊤

-- readers of a kind give only faults that are allowed where they are then, and stay of that kind
abbrev pub ReadsWith : {R : Type 0} → Reading R → (R → Type 0) → (R → PlacedFault → Type 0) → Type 0
ReadsWith {R} I Quiet Allowed = (x : Taken) (r s : R) → I.Reads r x s → Quiet r → IsTakenWith (Allowed s) x × Quiet s

-- they never ask
abbrev pub ReadsUnasked : {R : Type 0} → Reading R → (R → Type 0) → Type 0
ReadsUnasked I Quiet = ReadsWith I Quiet (λ r. AsksNothing)

-- calls never ask, since no `(` is at a place that asks
abbrev pub AnswersUnasked : Answers → Type 0
AnswersUnasked A = (definition : Definition) (site : Site) (answer : Result (List (List Read)) PlacedFault) → site.paren.asks ≡ None
    → A definition site answer → IsUnaskedIfFault answer

-- lists that are expanded alone never ask
abbrev pub AlonesUnasked : Alones → Type 0
AlonesUnasked deeper = (tokens : List Read) (numbering : Numbering) (visible : Definitions) (hidden : List Name) (x : Result (List Read) PlacedFault)
    → deeper tokens numbering visible hidden x → IsUnaskedIfFault x

-- the fault of a line number is at the place of a token
number_unasked : (place : Place) (shown : Option Integer) → place.asks ≡ None → IsTakenUnasked (line_number place shown)
number_unasked place (Some n) unasked = tt
number_unasked place None unasked = unasked

-- so it is of a token that may be `__LINE__`
pub token_unasked : (token : Read) (is_line : Bool) (shown : Option Integer)
    → IsTakenUnasked (if is_line then line_number (place_of token) shown else taken.Token token)
token_unasked token true shown = number_unasked (place_of token) shown refl
token_unasked token false shown = tt

shown_unasked : (shown_line : ℕ → Option Integer) (after : List Entry) (token : Read) → IsTakenUnasked (shown_token shown_line after token)
shown_unasked shown_line after token = token_unasked token (is_identifier line_name token.token.value) _

-- a call doesn't change whether a place asks
place_unasked : (around : Option CallPlace) (place : Place) → place.asks ≡ None → (place_in around place).asks ≡ None
place_unasked (Some c) place unasked = unasked
place_unasked None place unasked = unasked

-- faults that ask for nothing are allowed, and those that are allowed are so in a call, too
pub record IsAllowance (Allowed : PlacedFault → Type 0) : Type 0 where
  pub unasked : (fault : PlacedFault) → AsksNothing fault → Allowed fault
  pub in_call : (around : Option CallPlace) (fault : PlacedFault) → Allowed fault → Allowed (fault_in around fault)

pub only_unasked : IsAllowance AsksNothing
only_unasked = record { unasked = λ fault none. none; in_call = λ around fault none. place_unasked around fault.1 none }

module _ (Allowed : PlacedFault → Type 0) (allowance : IsAllowance Allowed) where
  pub taken_with : (x : Taken) → IsTakenUnasked x → IsTakenWith Allowed x
  taken_with (taken.Token token) unasked = tt
  taken_with (taken.Fault fault) unasked = allowance.unasked fault unasked
  taken_with taken.End unasked = tt

  outcome_with : (shown_line : ℕ → Option Integer) (x : Taken) → IsTakenWith Allowed x → IsTakenWith Allowed (shown_outcome shown_line x)
  outcome_with shown_line (taken.Token token) allowed = taken_with (shown_token shown_line [] token) (shown_unasked shown_line [] token)
  outcome_with shown_line (taken.Fault fault) allowed = allowed
  outcome_with shown_line taken.End allowed = tt

  -- paint changes no fault
  painted_with : (names : List Name) (x : Taken) → IsTakenWith Allowed x → IsTakenWith Allowed (taken_among names x)
  painted_with names (taken.Token token) allowed = tt
  painted_with names (taken.Fault fault) allowed = allowed
  painted_with names taken.End allowed = tt

  found_with : (entries : List Entry) (x : Taken) → IsTakenWith Allowed x → IsTakenWith Allowed (found_among entries x)
  found_with entries (taken.Token token) allowed = tt
  found_with entries (taken.Fault fault) allowed = allowance.in_call (outermost_call entries) fault allowed
  found_with entries taken.End allowed = tt

  -- nor does a call's answer change its fault
  called_with : (line : ℕ) (answer : Result (List (List Read)) PlacedFault) → IsUnaskedIfFault answer → IsCalledWith Allowed (called_by line answer)
  called_with line (Ok arguments) unasked = tt
  called_with line (Err fault) unasked = unasked

  -- a macro is opened by a token
  opening_with : {R : Type 0} (I : Reading R) (e : Expander R) (x : Taken) (m : Opening) → opening I e x ≡ Some m → IsTakenWith Allowed x
  opening_with I e (taken.Token token) m opens = tt
  opening_with I e (taken.Fault fault) m opens = cc
  opening_with I e taken.End m opens = tt

-- one more changes no fault
pub before_unasked : (token : Read) (rest : Result Gathered PlacedFault) → IsUnaskedIfFault rest → IsUnaskedIfFault (before token rest)
before_unasked token (Ok gathered) unasked = tt
before_unasked token (Err fault) unasked = unasked

first_unasked : {X : Type 0} (x : X) (rest : Result (List X) PlacedFault) → IsUnaskedIfFault rest → IsUnaskedIfFault (first_before x rest)
first_unasked x (Ok rest) unasked = tt
first_unasked x (Err fault) unasked = unasked

-- a `(` is at the place of a token
pub paren_unasked : (o : Taken) (paren : Place) → paren_at o ≡ Some paren → paren.asks ≡ None
paren_unasked (taken.Token token) paren e = go (is_left_paren token.token.value) e
  where
    go : (b : Bool) → (if b then Some (place_of token) else None) ≡ Some paren → paren.asks ≡ None
    go true e = let is : place_of token ≡ paren = cc in ap (λ (p : Place). p.asks) (sym is)
    go false e = cc
paren_unasked (taken.Fault fault) paren e = cc
paren_unasked taken.End paren e = cc

module _ {R : Type 0} (I : Reading R) (Quiet : R → Type 0) (Allowed : R → PlacedFault → Type 0) (allowance : (r : R) → IsAllowance (Allowed r))
    (reads : ReadsWith I Quiet Allowed) where
  -- what is held is allowed where the reader is, and the reader is of the kind
  abbrev pub IsQuiet : Expander R → Type 0
  IsQuiet e = IfSome e.held (IsTakenWith (Allowed e.reader)) × Quiet e.reader

  -- what is taken, gathered, called and given is allowed if what is held is
  fetching_with : (o : Taken) (e f : Expander R) → Fetches I e o f → IsQuiet e → IsTakenWith (Allowed f.reader) o × IsQuiet f
  fetching_with o e f (held o1 e1 f1 h p) quiet = (rw p (rw h at quiet.0), rw p (tt, quiet.1))
  fetching_with o e f (listed o1 token rest e1 f1 h b is p) quiet = (
    rw (is, p) (taken_with (Allowed e.reader) (allowance e.reader) (shown_token (I.shown_line e.reader) rest token)
        (shown_unasked (I.shown_line e.reader) rest token)),
    rw (p, h) (tt, quiet.1),
  )
  fetching_with o e f (read x o1 reader e1 f1 h b r is p) quiet =
      let there = reads x e.reader reader r quiet.1 in
      (rw (is, p) (outcome_with (Allowed reader) (allowance reader) (I.shown_line reader) x there.0), rw (p, h) (tt, there.1))

  taking_with : (o : Taken) (e f : Expander R) → Takes I e o f → IsQuiet e → IsTakenWith (Allowed f.reader) o × IsQuiet f
  taking_with o e f t quiet =
      let there = fetching_with t.first e f t.fetches quiet in
      (rw t.paints (painted_with (Allowed f.reader) (allowance f.reader) (masked_names f) t.first there.0), there.1)

  gathering_unasked : (n : ℕ) (last : Place) (x : Result Gathered PlacedFault) (e f : Expander R) → Gathers I n last e x f → last.asks ≡ None
      → IsQuiet e → IsUnaskedIfFault x × IsQuiet f
  gathering_unasked n last x e f (closed n1 l1 token e1 f1 x1 t h p) there quiet = (rw p tt, (taking_with _ e f t quiet).1)
  gathering_unasked n last x e f (inside n1 k l1 token e1 g f1 rest x1 t h u p) there quiet =
      let more = gathering_unasked k (place_of token) rest g f u refl (taking_with (taken.Token token) e g t quiet).1 in
      (rw p (before_unasked token rest more.0), more.1)
  gathering_unasked n last x e f (overfull n1 l1 token e1 f1 x1 t h p) there quiet = (rw p refl, (taking_with _ e f t quiet).1)
  gathering_unasked n last x e f (ended n1 l1 e1 f1 x1 t p) there quiet = (rw p there, (taking_with _ e f t quiet).1)
  gathering_unasked n last x e f (failed n1 l1 fault e1 f1 x1 t p) there quiet = (rw p refl, (taking_with _ e f t quiet).1)

  module _ (A : Answers) (answers : AnswersUnasked A) where
    call_with : (d : Definition) (c : Called) (e f : Expander R) → Calls I A d e c f → IsQuiet e → IsCalledWith (Allowed f.reader) c × IsQuiet f
    call_with d c e f (alone x e1 f1 c1 t h p) quiet =
        let taken = taking_with x e f t quiet in
        (rw p taken.0, taken.1)
    call_with d c e f (broken x paren fault e1 g f1 c1 t h u p) quiet =
        let more = gathering_unasked 0 paren (Err fault) g f u (paren_unasked x paren h) (taking_with x e g t quiet).1 in
        (rw p more.0, more.1)
    call_with d c e f (whole x paren gathered answer e1 g f1 c1 t h u a p) quiet =
        let there = paren_unasked x paren h in
        let more = gathering_unasked 0 paren (Ok gathered) g f u there (taking_with x e g t quiet).1 in (
          rw p (called_with (Allowed f.reader) (allowance f.reader) gathered.closing.line answer
              (answers d (site_of I f paren gathered.tokens) answer there a)),
          more.1,
        )

    pub item_with : (o : Taken) (e f : Expander R) → Emits I A e o f → IsQuiet e → IsTakenWith (Allowed f.reader) o × IsQuiet f
    item_with o e f (itself x o1 e1 f1 t h p) quiet =
        let taken = taking_with x e f t quiet in
        (rw p (found_with (Allowed f.reader) (allowance f.reader) f.list x taken.0), taken.1)
    item_with o e f (object x o1 m e1 g f1 t h k i) quiet =
        item_with o (with_macro m m.token.location.line [] g) f i (taking_with x e g t quiet).1
    item_with o e f (name_alone x y o1 m e1 g g1 f1 t h k c p q) quiet =
        let called = call_with m.definition (no_call y) g g1 c (taking_with x e g t quiet).1 in
        (rw p (opening_with (Allowed f.reader) (allowance f.reader) I g x m h), rw q (called.0, called.1.1))
    item_with o e f (call_refused x o1 fault m e1 g f1 t h k c p) quiet =
        let called = call_with m.definition (refused fault) g f c (taking_with x e g t quiet).1 in
        (rw p (found_with (Allowed f.reader) (allowance f.reader) f.list (taken.Fault fault) ((allowance f.reader).unasked fault called.0)), called.1)
    item_with o e f (call x o1 arguments line m e1 g g1 f1 t h k c i) quiet =
        let called = call_with m.definition (fits arguments line) g g1 c (taking_with x e g t quiet).1 in
        item_with o (with_macro m line arguments g1) f i called.1

module _ {R : Type 0} (I : Reading R) (Quiet : R → Type 0) (reads : ReadsUnasked I Quiet) (A : Answers) (answers : AnswersUnasked A) where
  -- what is given asks for nothing, if readers and calls never ask
  pub item_unasked : (o : Taken) (e f : Expander R) → Emits I A e o f → HoldsUnasked e × Quiet e.reader
      → IsTakenUnasked o × (HoldsUnasked f × Quiet f.reader)
  item_unasked = item_with I Quiet (λ r. AsksNothing) (λ r. only_unasked) reads A answers

  -- nor do the items of a list
  pub list_unasked : (x : Result (List Read) PlacedFault) (e : Expander R) → Collects I A e x → HoldsUnasked e × Quiet e.reader → IsUnaskedIfFault x
  list_unasked x e (done e1 f x1 i p) quiet = rw p tt
  list_unasked x e (failing fault e1 f x1 i p) quiet = rw p (item_unasked (taken.Fault fault) e f i quiet).0
  list_unasked x e (item token rest x1 e1 f i c p) quiet =
      rw p (first_unasked token rest (list_unasked rest f c (item_unasked (taken.Token token) e f i quiet).1))

-- a list of tokens gives tokens and its end
listed_unasked : ReadsUnasked argument_reading (λ listed. ⊤)
listed_unasked x r s h quiet = (rw h.0 (go _), tt)
  where
    go : (o : Option Read) → IsTakenUnasked (option_map_or taken.Token o taken.End)
    go (Some token) = tt
    go None = tt

-- the arguments of a call, each alone
each_unasked : (deeper : Alones) → AlonesUnasked deeper → (numbering : Numbering) (visible : Definitions) (hidden : List Name)
    (arguments : List (List Read)) (x : Result (List (List Read)) PlacedFault) → Each deeper numbering visible hidden arguments x → IsUnaskedIfFault x
each_unasked deeper alones numbering visible hidden arguments x (none x1 p) = rw p tt
each_unasked deeper alones numbering visible hidden arguments x (first_failed argument arguments1 fault x1 d p) =
    rw p (alones argument numbering visible hidden (Err fault) d)
each_unasked deeper alones numbering visible hidden arguments x (more argument expanded arguments1 rest x1 d each p) =
    rw p (first_unasked expanded rest (each_unasked deeper alones numbering visible hidden arguments1 rest each))

-- a misfit is at the `(`
by_unasked : (Fitting : Site → Result (List (List Read)) PlacedFault → Type 0)
    → ((site : Site) (x : Result (List (List Read)) PlacedFault) → site.paren.asks ≡ None → Fitting site x → IsUnaskedIfFault x)
    → AnswersUnasked (answers_by Fitting)
by_unasked Fitting fit definition site answer there = go (misfit definition.parameters site.arguments)
  where
    go : (found : Option PreprocessorError) → MatchOption found (Fitting site answer) (λ error. answer ≡ Err (error, site.paren)) → IsUnaskedIfFault answer
    go None h = fit site answer there h
    go (Some error) p = rw p there

-- however deep arguments may be expanded inside one another
arguments_unasked : (levels : ℕ) (site : Site) (x : Result (List (List Read)) PlacedFault) → site.paren.asks ≡ None → ExpandsArguments levels site x
    → IsUnaskedIfFault x
arguments_unasked zero site x there p = rw p there
arguments_unasked (suc levels) site x there each =
    each_unasked (alone_by (answers_at levels)) (λ tokens numbering visible hidden y c.
    list_unasked argument_reading (λ listed. ⊤) listed_unasked (answers_at levels) (by_unasked (ExpandsArguments levels) (arguments_unasked levels)) y
    (reading_of tokens numbering visible hidden) c (tt, tt))
    site.numbering site.visible site.open_around site.arguments x each

-- calls never ask
pub calls_unasked : (levels : ℕ) → AnswersUnasked (answers_at levels)
calls_unasked levels = by_unasked (ExpandsArguments levels) (arguments_unasked levels)

-- the fault of a call asks for nothing
pub answers_unasked : (levels : ℕ) (definition : Definition) (site : Site) (fault : PlacedFault) → site.paren.asks ≡ None
    → answers_at levels definition site (Err fault) → fault.1.asks ≡ None
answers_unasked levels definition site fault there answer =
    calls_unasked levels definition site (Err fault) there answer

-- An effect that asks does so by rules that say so.
abbrev pub AsksBy : Rules → Effect → Type 0
AsksBy rules (asks line) = rules.asks_includes ≡ true
AsksBy rules _ = ⊤

module _ (rules : Rules) (block : Option BlockFacts) (word : Location) (after : List Seen) where
  -- a directive asks only if it is an `#include` by such rules
  table_asks : (live : Bool) (directive : Directive) → (live ≡ true → directive ≡ d.Include → rules.asks_includes ≡ true)
      → AsksBy rules (directive_move rules live block directive word after).effect
  table_asks live directive by =
      directive_holds (λ move. AsksBy rules move.effect) rules block word after live directive (record {
        failing = λ fault. tt;
        refusing = λ fault. tt;
        unknown = λ dead its. tt;
        passing = λ why. tt;
        items = λ its plain value is. tt;
        asking = by;
        defining = λ its plain named is. tt;
        undefining = λ its plain name. tt;
        numbering = λ its plain tokens. tt;
        testing = λ its opens holds name. tt;
        deciding = λ why tokens. tt;
      })

  -- by other rules an `#include` line is an unknown directive
  unasked_line : (live : Bool) (directive : Directive) → rules.asks_includes ≡ false
      → AsksBy rules (directive_move rules live block directive word after).effect
  unasked_line true d.Include e = rw e tt
  unasked_line live directive e = table_asks live directive (λ its is. cc)

  line_asks : (live : Bool) (directive : Directive) → AsksBy rules (directive_move rules live block directive word after).effect
  line_asks live directive = go rules.asks_includes refl
    where
      go : (b : Bool) → rules.asks_includes ≡ b → AsksBy rules (directive_move rules live block directive word after).effect
      go true e = table_asks live directive (λ its is. e)
      go false e = unasked_line live directive e

-- the effect of what stands in front asks only by such rules
pub move_asks : (rules : Rules) (live : Bool) (block : Option BlockFacts) (shown : Sight) (rest : List Seen)
    → AsksBy rules (move_at rules live block shown rest).effect
move_asks rules live block (sight.Directive directive word) rest = line_asks rules block word (drop 2 rest) live directive
move_asks rules false block (sight.Fault fault) rest = go rules.passes_dead_errors
  where
    go : (passed : Bool) → AsksBy rules (if passed then passing (error_length rest) else failing_with fault).effect
    go true = tt
    go false = tt
move_asks rules true block _ rest = tt
move_asks rules false block _ rest = tt
