-- The numbers of the macros that are open on a line are right.
use Rattle.std.proofs.Common.{◌≡◌, List, Ok, subst, refl}
use Rattle.pp_macros.specs.declared.calls.Taken.TheVariants as taken
use Rattle.pp_macros.specs.inner.Calling.{MacroCall}
use Rattle.pp_macros.specs.inner.CallTurns.{TurnsOrRefuses}
use Rattle.pp_macros.specs.inner.Defined.{Defined, names_in}
use Rattle.pp_macros.specs.inner.Nesting.{AreKnown, MacroProcessor, listed_in}
use Rattle.pp_macros.specs.inner.Reader.{Listing, of_list}
use Rattle.pp_macros.proofs.open_frames.KnownLemmas.{alone_known}
use Rattle.pp_macros.proofs.open_frames.ListKnownLemmas.{call_known, list_kept}
use Rattle.pp_macros.proofs.taking.ListedLeadsLemmas.{turned}
use Rattle.pp_directives.specs.inner.LineItems.{IsOnLine}
use Rattle.pp_model.specs.declared.numbering.Numbering.{Numbering}

pub line_known : (numbering : Numbering) (definitions : List Defined) (m : MacroProcessor) (l : Listing) → IsOnLine numbering definitions m.here (listed_in m.below l)
    → AreKnown (names_in l.definitions) m
line_known numbering definitions m l reads = alone_known (names_in l.definitions) m reads.sound.numbers reads.unhidden

-- a call was gathered
pub line_call_known : (numbering : Numbering) (definitions : List Defined) (m n : MacroProcessor) (l k : Listing) (c : MacroCall) → IsOnLine numbering definitions m.here (listed_in m.below l)
    → TurnsOrRefuses m.here (of_list (listed_in m.below l)) (Ok (taken.Call c)) n.here (of_list (listed_in n.below k)) → n.below ≡ m.below
    → AreKnown (names_in definitions) n
line_call_known numbering definitions m n l k c reads turns same =
    let turn = turned _ _ _ _ _ turns refl in
    call_known 0 m n m.here n.below (listed_in m.below l) k definitions c reads.sound turn
    (list_kept definitions (Ok (taken.Call c)) m.here n.here m.below n.below l k turn refl reads.defined) same
    (subst (λ (ds : List Defined). AreKnown (names_in ds) m) reads.defined (line_known numbering definitions m l reads))
