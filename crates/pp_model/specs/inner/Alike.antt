-- Tokens, errors, lists, definitions and expanders that are alike but for the texts that they are in, and for the calls
-- of errors. What an expander gives hangs on neither.
use Rattle.std.specs.Prelude.{◌≡◌, ⊤, ℕ, List, [], ◌∷◌, Option, Some, None, Result, Ok, Err}
use Rattle.pp_model.specs.Calls.{Site}
use Rattle.pp_model.specs.Definitions.{Definition, Definitions}
use Rattle.pp_model.specs.Names.{Name}
use Rattle.pp_model.specs.Places.{PlacedFault}
use Rattle.pp_model.specs.Reading.{Reading, Expander}
use Rattle.pp_model.specs.declared.place.Place.{Place}
use Rattle.pp_model.specs.declared.read.Read.{Read}
use Rattle.pp_model.specs.declared.read.Taken.{Taken}
use Rattle.pp_model.specs.declared.read.Taken.TheVariants as taken
use Rattle.pp_model.specs.declared.splice.Entry.{Entry}
use Rattle.pp_model.specs.declared.splice.Entry.TheVariants.{Plain, End}

-- a relation of the elements of two lists of one length
abbrev pub Pairs : {X : Type 0} → (X → X → Type 0) → List X → List X → Type 0
Pairs R [] [] = ⊤
Pairs R (x ∷ xs) (y ∷ ys) = R x y × Pairs R xs ys
Pairs R _ _ = ⊥

-- the same of what two options hold
abbrev pub Both : {X : Type 0} → (X → X → Type 0) → Option X → Option X → Type 0
Both R None None = ⊤
Both R (Some x) (Some y) = R x y
Both R _ _ = ⊥

abbrev pub AlikeRead : Read → Read → Type 0
AlikeRead x y = (x.token ≡ y.token) × (x.painted ≡ y.painted)

abbrev pub AlikePlace : Place → Place → Type 0
AlikePlace x y = (x.location ≡ y.location) × (x.asks ≡ y.asks)

abbrev pub AlikeFault : PlacedFault → PlacedFault → Type 0
AlikeFault x y = (x.0 ≡ y.0) × AlikePlace x.1 y.1

abbrev pub AlikeTaken : Taken → Taken → Type 0
AlikeTaken (taken.Token x) (taken.Token y) = AlikeRead x y
AlikeTaken (taken.Fault x) (taken.Fault y) = AlikeFault x y
AlikeTaken taken.End taken.End = ⊤
AlikeTaken _ _ = ⊥

abbrev pub AlikeEntry : Entry → Entry → Type 0
AlikeEntry (Plain x) (Plain y) = AlikeRead x y
AlikeEntry (End x) (End y) = (x.name ≡ y.name) × (x.call.line ≡ y.call.line)
AlikeEntry _ _ = ⊥

abbrev pub AlikeDefinition : Definition → Definition → Type 0
AlikeDefinition x y = (x.function_like ≡ y.function_like) × (x.parameters ≡ y.parameters) × (x.body ≡ y.body)

abbrev pub AlikeDefinitions : Definitions → Definitions → Type 0
AlikeDefinitions x y = (name : Name) → Both AlikeDefinition (x name) (y name)

-- what is alike of two results: what both give, or the faults
abbrev pub AlikeResult : {X : Type 0} → (X → X → Type 0) → Result X PlacedFault → Result X PlacedFault → Type 0
AlikeResult R (Ok x) (Ok y) = R x y
AlikeResult R (Err x) (Err y) = AlikeFault x y
AlikeResult R _ _ = ⊥

pub record AlikeSite (x y : Site) : Type 0 where
  pub paren : AlikePlace x.paren y.paren
  pub arguments : Pairs (Pairs AlikeRead) x.arguments y.arguments
  pub numbering : x.numbering ≡ y.numbering
  pub visible : AlikeDefinitions x.visible y.visible
  pub open_around : x.open_around ≡ y.open_around

-- expanders over two kinds of reader
pub record AlikeExpander {R S : Type 0} (Alike : R → S → Type 0) (e : Expander R) (f : Expander S) : Type 0 where
  pub held : Both AlikeTaken e.held f.held
  pub list : Pairs AlikeEntry e.list f.list
  pub reader : Alike e.reader f.reader
  pub hidden : e.hidden ≡ f.hidden

-- a second reader gives what the first gives, and sees and numbers the same, as long as the two are alike
pub record Follows {R S : Type 0} (Alike : R → S → Type 0) (I : Reading R) (J : Reading S) : Type 0 where
  pub reads : (r t : R) (s : S) (x : Taken) → Alike r s → I.Reads r x t
      → (y : Taken) × (u : S) × J.Reads s y u × AlikeTaken x y × Alike t u
  pub visible : (r : R) (s : S) → Alike r s → AlikeDefinitions (I.visible r) (J.visible s)
  pub shown_line : (r : R) (s : S) → Alike r s → (line : ℕ) → I.shown_line r line ≡ J.shown_line s line
  pub numbering : (r : R) (s : S) → Alike r s → I.numbering r ≡ J.numbering s
  pub is_reserved : (name : Name) → I.is_reserved name ≡ J.is_reserved name
