-- Kinds and their definitions at examples, which compute.
use Rattle.std.specs.Prelude.{codes}
use Rattle.std.proofs.Common.{◌≡◌, ℕ, pos, true, false, List, [], ◌∷◌, Some, None, refl}
use Rattle.regex.specs.Patterns.{Re}
use Rattle.rec_check.specs.Meanings.{meaning_in}
use Rattle.rec_check.specs.Resolving.{is_known_kind, LeadsTo}
use Rattle.rec_check.specs.Types.{FieldType, Definition, integer, range, line, unchecked}

abbrev define : List ℕ → List ℕ → FieldType Re → Definition
define name kind value_type = record { name = name; kind = kind; value_type = value_type }

abbrev percent : FieldType Re
percent = range (pos 0) (pos 100)

-- ---- which kinds are known

pub checked_kind_is_known : is_known_kind (codes "regexp") ≡ true
unfolding is_known_kind
checked_kind_is_known = refl

pub unchecked_kind_is_known : is_known_kind (codes "rec") ≡ true
unfolding is_known_kind
unchecked_kind_is_known = refl

pub other_kind_is_not_known : is_known_kind (codes "percent") ≡ false
unfolding is_known_kind
other_kind_is_not_known = refl

-- ---- two steps, of which the first definition stands last

abbrev chain : List Definition
chain = define (codes "percent") (codes "range") percent ∷ define (codes "share") (codes "percent") unchecked ∷ []

pub two_steps : LeadsTo chain (codes "share") unchecked (define (codes "share") (codes "percent") unchecked ∷ define (codes "percent") (codes "range") percent ∷ []) percent
unfolding is_known_kind
two_steps = (refl, refl, (refl, refl, (refl, refl)))

pub share_is_a_percent : meaning_in chain (codes "share") unchecked ≡ Some percent
unfolding meaning_in is_known_kind
share_is_a_percent = refl

pub definition_may_stand_later : meaning_in (define (codes "share") (codes "percent") unchecked ∷ define (codes "percent") (codes "range") percent ∷ []) (codes "share") unchecked ≡ Some percent
unfolding meaning_in is_known_kind
definition_may_stand_later = refl

-- ---- two definitions of one name

pub later_definition_holds : meaning_in (define (codes "note") (codes "int") integer ∷ define (codes "note") (codes "line") line ∷ []) (codes "note") unchecked ≡ Some line
unfolding meaning_in is_known_kind
later_definition_holds = refl

-- ---- kinds that come to nothing

pub cycle_has_no_meaning : meaning_in (define (codes "a") (codes "b") unchecked ∷ define (codes "b") (codes "a") unchecked ∷ []) (codes "a") unchecked ≡ None
unfolding meaning_in is_known_kind
cycle_has_no_meaning = refl

pub kind_of_itself_has_no_meaning : meaning_in (define (codes "a") (codes "a") unchecked ∷ []) (codes "a") unchecked ≡ None
unfolding meaning_in is_known_kind
kind_of_itself_has_no_meaning = refl

pub kind_without_definition_has_no_meaning : meaning_in chain (codes "other") unchecked ≡ None
unfolding meaning_in is_known_kind
kind_without_definition_has_no_meaning = refl

-- ---- definitions of known kinds don't count

pub known_kind_is_itself : meaning_in (define (codes "int") (codes "line") line ∷ []) (codes "int") integer ≡ Some integer
unfolding meaning_in is_known_kind
known_kind_is_itself = refl

pub unchecked_kind_is_itself : meaning_in (define (codes "real") (codes "int") integer ∷ []) (codes "real") unchecked ≡ Some unchecked
unfolding meaning_in is_known_kind
unchecked_kind_is_itself = refl
