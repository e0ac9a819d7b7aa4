-- The parts of a block, and the newline at the end of the text.
use Rattle.std.proofs.Common.{◌≡◌, ◌≢◌, ◌∙◌, ℕ, true, false, IsTrue, not, ◌&&◌, List, [], ◌∷◌, ◌++◌, map, refl, ap, ap₂, sym, subst, inl, inr, append-nil}
use Rattle.std.specs.Str.{bytes_eq}
use Rattle.std.proofs.lemmas.Bool.{cases_Bool, false≢true}
use Rattle.std.proofs.lemmas.List.{append_assoc}
use Rattle.rec_text.specs.declared.element.Kind.{Kind}
use Rattle.rec_text.specs.declared.element.Kind.TheVariants.{Blank, Comment, Field}
use Rattle.rec_text.specs.Bytes.{is_nil, ends_newline, closed_text}
use Rattle.rec_text.specs.Elements.{Piece, IsElement, is_element, EndInNewlines, text_of}
use Rattle.rec_text.proofs.lemmas.elements.FieldLemmas.{ends_newline-append}
use Rattle.rec_text.proofs.lemmas.ListLemmas.{bytes_eq-self, AllByRecursion-prefix, AllByRecursion-following}
use Rattle.rec_edit.specs.declared.draft.Draft.{Draft}
use Rattle.rec_edit.specs.Script.{Part, without_newline, lacks_newline, settled, old_pieces}
use Rattle.rec_edit.specs.Blocks.{one, kept, put}
use Rattle.rec_edit.specs.proving.Drafts.{IsDraft, LeadsOn, AreKept, AreLines}
use Rattle.rec_edit.proofs.lemmas.scripts.WellFormedLemmas.{AreWhole, without_newline-push}

-- ---- one after another

pub LeadsOn-append : (first middle last : Draft) (some more : List Part) → LeadsOn first some middle → LeadsOn middle more last → LeadsOn first (some ++ more) last
LeadsOn-append first middle last some more one two =
    λ rest whole is. two rest whole (one (more ++ rest) whole (subst (λ parts. IsDraft first parts whole) (append_assoc some more rest) is))

-- ---- elements in a row

AreWhole-rest : (piece : Piece) (pieces : List Piece) → AreWhole (piece ∷ pieces) → AreWhole pieces
AreWhole-rest piece [] are = record { well_formed = tt; lines_end = tt }
AreWhole-rest piece (next ∷ pieces) are = record { well_formed = are.well_formed.1; lines_end = are.lines_end.1 }

pub AreWhole-following : (some more : List Piece) → AreWhole (some ++ more) → AreWhole more
AreWhole-following [] more are = are
AreWhole-following (piece ∷ some) more are = AreWhole-following some more (AreWhole-rest piece (some ++ more) are)

pub AreWhole-prefix : (some more : List Piece) → AreWhole (some ++ more) → AreWhole some
AreWhole-prefix [] more are = record { well_formed = tt; lines_end = tt }
AreWhole-prefix (piece ∷ []) more are = record { well_formed = (are.well_formed.0, tt); lines_end = tt }
AreWhole-prefix (piece ∷ next ∷ some) more are =
    let rest = AreWhole-prefix (next ∷ some) more (AreWhole-rest piece (next ∷ (some ++ more)) are) in
    record { well_formed = (are.well_formed.0, rest.well_formed); lines_end = (are.lines_end.0, rest.lines_end) }

-- ---- the newline at the end

pub closed_text-closed : (text : List ℕ) → ends_newline text ≡ true → closed_text text ≡ text
closed_text-closed text ends = rw ends refl

pub closed_text-open : (text : List ℕ) → ends_newline text ≡ false → closed_text text ≡ text ++ 10 ∷ []
closed_text-open text other = rw other refl

pub lacks-ends : (text : List ℕ) → ends_newline text ≡ true → lacks_newline text ≡ false
lacks-ends text ends = rw ends (elim (cases_Bool (is_nil text)) [ inl none ↦ rw none refl | inr some ↦ rw some refl ])

some_byte : (bytes : List ℕ) → bytes ≢ [] → (not (is_nil bytes) && true) ≡ true
some_byte [] some = absurd (some refl)
some_byte (b ∷ bytes) some = refl

pub lacks-open : (text : List ℕ) → text ≢ [] → ends_newline text ≡ false → lacks_newline text ≡ true
lacks-open text some other = rw other (some_byte text some)

-- an element has a byte
pub element_some : (kind : Kind) (bytes : List ℕ) → IsTrue (is_element kind bytes) → bytes ≢ []
element_some Blank [] is none = false≢true is
element_some Comment [] is none = false≢true is
element_some Field [] is none = false≢true is
element_some kind (b ∷ bytes) is none = cc

first_nil : (some more : List ℕ) → some ++ more ≡ [] → some ≡ []
first_nil [] more none = refl
first_nil (b ∷ some) more none = absurd (cc)

pub some_text : (piece : Piece) (pieces : List Piece) → IsElement piece → text_of (piece ∷ pieces) ≢ []
some_text piece pieces is none = element_some piece.kind piece.bytes is (first_nil piece.bytes (text_of pieces) none)

-- ---- parts are settled

pub settled-cons : (part : Part) (parts : List Part) → lacks_newline (text_of part.old) ≡ false → settled (part ∷ parts) ≡ part ∷ settled parts
settled-cons part [] ends = rw ends refl
settled-cons part (next ∷ parts) ends = refl

pub settled-put : (new : List Piece) (parts : List Part) → settled (put new ++ parts) ≡ put new ++ settled parts
settled-put [] parts = refl
settled-put (piece ∷ new) parts = settled-cons (record { old = []; new = piece ∷ new }) parts refl

pub old_pieces-kept : (pieces : List Piece) → old_pieces (kept pieces) ≡ pieces
old_pieces-kept [] = refl
old_pieces-kept (piece ∷ pieces) = ap (λ p. piece ∷ p) (old_pieces-kept pieces)

-- ---- parts before others

-- each element before others ends in a newline
pub AreLines-before : (some : List Piece) (next : Piece) (more : List Piece) → EndInNewlines (some ++ next ∷ more) → AreLines some
AreLines-before [] next more ends = tt
AreLines-before (piece ∷ []) next more ends = (ends.0, tt)
AreLines-before (piece ∷ other ∷ some) next more ends = (ends.0, AreLines-before (other ∷ some) next more ends.1)

pub lines_end : (piece : Piece) (pieces : List Piece) → AreLines (piece ∷ pieces) → ends_newline (text_of (piece ∷ pieces)) ≡ true
lines_end piece [] lines = ap ends_newline (append-nil piece.bytes) ∙ lines.0
lines_end piece (next ∷ pieces) lines = ends_newline-append piece.bytes (text_of (next ∷ pieces)) (lines_end next pieces lines.1)

pub lacks-lines : (pieces : List Piece) → AreLines pieces → lacks_newline (text_of pieces) ≡ false
lacks-lines [] lines = refl
lacks-lines (piece ∷ pieces) lines = lacks-ends (text_of (piece ∷ pieces)) (lines_end piece pieces lines)

pub settled-lines : (some more : List Part) → AreLines (old_pieces some) → settled (some ++ more) ≡ some ++ settled more
settled-lines [] more lines = refl
settled-lines (part ∷ some) more lines =
    settled-cons part (some ++ more) (lacks-lines part.old (AllByRecursion-prefix (λ p. IsTrue (ends_newline p.bytes)) part.old (old_pieces some) lines))
    ∙ ap (λ parts. part ∷ parts) (settled-lines some more (AllByRecursion-following (λ p. IsTrue (ends_newline p.bytes)) part.old (old_pieces some) lines))

-- parts of a text before others, which have elements of it where there are any
pub settled-append : (some more : List Part) → AreWhole (old_pieces some ++ old_pieces more) → (old_pieces more ≡ [] → more ≡ []) → settled (some ++ more) ≡ settled some ++ settled more
settled-append some more are none = apart (old_pieces more) refl
  where
    apart : (olds : List Piece) → old_pieces more ≡ olds → settled (some ++ more) ≡ settled some ++ settled more
    apart [] same =
        let gone : more ≡ [] = none same in
        ap (λ m. settled (some ++ m)) gone ∙ ap settled (append-nil some) ∙ sym (append-nil (settled some)) ∙ ap (λ m. settled some ++ settled m) (sym gone)
    apart (piece ∷ pieces) same =
        let ends : EndInNewlines (old_pieces some ++ piece ∷ pieces) = subst (λ l. EndInNewlines (old_pieces some ++ l)) same are.lines_end in
        let lines : AreLines (old_pieces some) = AreLines-before (old_pieces some) piece pieces ends in
        settled-lines some more lines
        ∙ ap (λ l. l ++ settled more) (sym (append-nil some) ∙ sym (settled-lines some [] lines) ∙ ap settled (append-nil some))

-- ---- elements that stay

pub same_text : (piece : Piece) (bytes : List ℕ) → bytes ≡ piece.bytes → bytes_eq (text_of (piece ∷ [])) (bytes ++ []) ≡ true
same_text piece bytes same = ap (λ b. bytes_eq (piece.bytes ++ []) (b ++ [])) same ∙ bytes_eq-self (piece.bytes ++ [])

-- an element that stays as it is
abbrev pub staying : Piece → Part
staying piece = record { old = piece ∷ []; new = piece ∷ [] }

abbrev with_bytes : Piece → List ℕ → List Part → List Part
with_bytes piece bytes parts = record { old = piece ∷ []; new = record { kind = piece.kind; bytes = bytes } ∷ [] } ∷ parts

settled-last : (piece : Piece) → IsElement piece → settled (one (λ p. p ∷ []) piece ∷ []) ≡ staying piece ∷ []
settled-last piece is = elim (cases_Bool (ends_newline piece.bytes)) [
  | inl ends ↦
      let bytes : ends_newline (text_of (piece ∷ [])) ≡ true = ap ends_newline (append-nil piece.bytes) ∙ ends in
      let shut : lacks_newline (text_of (piece ∷ [])) ≡ false = lacks-ends (text_of (piece ∷ [])) bytes in
      rw shut (ap (λ b. with_bytes piece b []) (closed_text-closed piece.bytes ends))
  | inr other ↦
      let bytes : ends_newline (text_of (piece ∷ [])) ≡ false = ap ends_newline (append-nil piece.bytes) ∙ other in
      let some : text_of (piece ∷ []) ≢ [] = λ none. element_some piece.kind piece.bytes is (sym (append-nil piece.bytes) ∙ none) in
      let lacks : lacks_newline (text_of (piece ∷ [])) ≡ true = lacks-open (text_of (piece ∷ [])) some bytes in
      rw lacks (ap (λ b. with_bytes piece b []) (ap without_newline (closed_text-open piece.bytes other) ∙ without_newline-push piece.bytes))
]

pub settled-kept : (pieces : List Piece) → AreWhole pieces → settled (kept pieces) ≡ map staying pieces
settled-kept [] are = refl
settled-kept (piece ∷ []) are = settled-last piece are.well_formed.0
settled-kept (piece ∷ next ∷ pieces) are =
    ap₂ (with_bytes piece) (closed_text-closed piece.bytes are.lines_end.0) (settled-kept (next ∷ pieces) (AreWhole-rest piece (next ∷ pieces) are))

pub AreKept-kept : (pieces : List Piece) → AreWhole pieces → AreKept (settled (kept pieces))
AreKept-kept pieces are = subst AreKept (sym (settled-kept pieces are)) (stay pieces)
  where
    stay : (some : List Piece) → AreKept (map staying some)
    stay [] = tt
    stay (piece ∷ some) = (same_text piece piece.bytes refl, stay some)
