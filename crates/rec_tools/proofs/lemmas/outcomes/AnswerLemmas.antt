-- Each step of a request has one answer at most, and so has one step after another; a refused pattern may stand aside.
use Rattle.std.proofs.Common.{◌≡◌, ℕ, Bool, Option, Some, None, List, Result, Ok, Err, sym, ap, subst, refl, ◌∙◌}
use Rattle.std.specs.Prelude.{◌≢◌}
use Rattle.rec_text.specs.declared.fault.Fault.{Fault}
use Rattle.rec_text.specs.declared.fault.Fault.TheVariants.{BadExpression, BadPattern}
use Rattle.rec_text.specs.Elements.{Piece}
use Rattle.rec_text.specs.Reading.{IsReading}
use Rattle.rec_text.proofs.lemmas.reading.ReadingLemmas.{one_reading}
use Rattle.rec_sex.specs.Grammar.{fault_of}
use Rattle.rec_sex.specs.Meaning.{Selects}
use Rattle.rec_sex.proofs.lemmas.lists.IndexListReading.{one_index_list}
use Rattle.rec_sex.proofs.lemmas.syntax.UniqueLemmas.{one_expression}
use Rattle.rec_check.specs.declared.set.Set_.{Set_}
use Rattle.rec_check.specs.Schemas.{Described, IsSchema}
use Rattle.rec_check.specs.DescribedTexts.{DescribedText, AreDescribed, IsDescribedText}
use Rattle.rec_check.proofs.lemmas.laws.SameLemmas.{one_schema}
use Rattle.rec_select.specs.Selection.{Filter, all as all_members, at_places, with_text, with_value, Passes, IsSelection}
use Rattle.rec_edit.specs.Outcome.{allowed}
use Rattle.rec_tools.specs.declared.request.Ask.{Ask}
use Rattle.rec_tools.specs.declared.request.Ask.TheVariants.{All, Expr, Index, Quick, Where}
use Rattle.rec_tools.specs.Steps.{Then}
use Rattle.rec_tools.specs.Asking.{IsExpressionFilter, IsIndexFilter, IsValueFilter, IsFilter}
use Rattle.rec_text.proofs.lemmas.FaultLemmas.{no_both, same_fault, same_value}
use Rattle.rec_text.proofs.lemmas.StepLemmas.{AgreeBut, HasOneBut, HasOneBut-of, AreLike, AgreeLike, AgreeBut-like, HasOneBut-Then, Then-parts, Then-value, Then-next}
use Rattle.rec_check.proofs.lemmas.laws.AlikeLemmas.{SameSchemas, SameTexts, AgreeLike-schema, AgreeLike-described}

-- ---- the filter that is asked for

same_some : (one other : ℕ) → ◌≡◌ {A = Option ℕ} (Some one) (Some other) → one ≡ other
same_some one other e = cc

no_place : (place : ℕ) → ◌≡◌ {A = Option ℕ} None (Some place) → ⊥
no_place place e = cc

same_expression : (text : List ℕ) (wanted other : Filter) → IsExpressionFilter text (Ok wanted) → IsExpressionFilter text (Ok other)
    → (pieces : List Piece) (place : ℕ) → Passes wanted pieces place → Passes other pieces place
same_expression text wanted other (one, is, e) (two, is_too, k) pieces place passes =
    let selects : Selects one pieces = subst (λ w. Passes w pieces place) e passes in
    subst (λ w. Passes w pieces place) (sym k) (one_expression.selects text one two pieces is is_too selects)

same_indexes : (text : List ℕ) (wanted other : Filter) → IsIndexFilter text (Ok wanted) → IsIndexFilter text (Ok other) → wanted ≡ other
same_indexes text wanted other (spans, is, e) (others, is_too, k) =
    e ∙ ap at_places (same_value spans others (one_index_list text (Ok spans) is (Ok others) is_too)) ∙ sym k

same_values : (text : List ℕ) (wanted other : Filter) → IsValueFilter text (Ok wanted) → IsValueFilter text (Ok other) → wanted ≡ other
same_values text wanted other (one, is, e) (two, is_too, k) = e ∙ ap with_value (same_value one two (sym is ∙ is_too)) ∙ sym k

-- the same records pass each filter that is asked for
same_passes : (ask : Ask) (wanted other : Filter) → IsFilter ask (Ok wanted) → IsFilter ask (Ok other)
    → (pieces : List Piece) (place : ℕ) → Passes wanted pieces place → Passes other pieces place
same_passes All wanted other is is_too pieces place passes = subst (λ w. Passes w pieces place) (same_value wanted other (is ∙ sym is_too)) passes
same_passes (Expr text) wanted other is is_too pieces place passes = same_expression text wanted other is is_too pieces place passes
same_passes (Index list) wanted other is is_too pieces place passes = subst (λ w. Passes w pieces place) (same_indexes list wanted other is is_too) passes
same_passes (Quick text) wanted other is is_too pieces place passes = subst (λ w. Passes w pieces place) (same_value wanted other (is ∙ sym is_too)) passes
same_passes (Where text) wanted other is is_too pieces place passes = subst (λ w. Passes w pieces place) (same_values text wanted other is is_too) passes

same_place : (text : List ℕ) (one other : ℕ) → fault_of text ≡ Some one → fault_of text ≡ Some other → one ≡ other
same_place text one other e k = same_some one other (sym e ∙ k)

expression_fault : (text : List ℕ) (fault other : Fault) → IsExpressionFilter text (Err fault) → IsExpressionFilter text (Err other)
    → fault ≢ BadPattern → other ≢ BadPattern → fault ≡ other
expression_fault text (BadExpression one) (BadExpression two) is is_too built built_too = ap BadExpression (same_place text one two is is_too)
expression_fault text (BadExpression one) BadPattern is is_too built built_too = absurd (built_too refl)
expression_fault text (BadExpression one) _ is is_too built built_too = absurd is_too
expression_fault text BadPattern other is is_too built built_too = absurd (built refl)
expression_fault text _ other is is_too built built_too = absurd is

expression_or_fault : (text : List ℕ) (wanted : Filter) (fault : Fault) → IsExpressionFilter text (Ok wanted) → IsExpressionFilter text (Err fault) → fault ≢ BadPattern → ⊥
expression_or_fault text wanted (BadExpression place) (term, is, e) is_too built = no_place place (sym (one_expression.faultless text term is) ∙ is_too)
expression_or_fault text wanted BadPattern is is_too built = built refl
expression_or_fault text wanted _ is is_too built = is_too

filter_fault : (ask : Ask) (fault other : Fault) → IsFilter ask (Err fault) → IsFilter ask (Err other) → fault ≢ BadPattern → other ≢ BadPattern → fault ≡ other
filter_fault All fault other is is_too built built_too = absurd (no_both all_members fault (sym is))
filter_fault (Expr text) fault other is is_too built built_too = expression_fault text fault other is is_too built built_too
filter_fault (Index list) fault other is is_too built built_too = same_fault fault other (one_index_list list (Err fault) is (Err other) is_too)
filter_fault (Quick text) fault other is is_too built built_too = absurd (no_both (with_text text) fault (sym is))
filter_fault (Where text) fault other is is_too built built_too = same_fault fault other (sym is ∙ is_too)

filter_or_fault : (ask : Ask) (wanted : Filter) (fault : Fault) → IsFilter ask (Ok wanted) → IsFilter ask (Err fault) → fault ≢ BadPattern → ⊥
filter_or_fault All wanted fault is is_too built = no_both all_members fault (sym is_too)
filter_or_fault (Expr text) wanted fault is is_too built = expression_or_fault text wanted fault is is_too built
filter_or_fault (Index list) wanted fault is is_too built = no_both is.0 fault (one_index_list list (Ok is.0) is.1 (Err fault) is_too)
filter_or_fault (Quick text) wanted fault is is_too built = no_both (with_text text) fault (sym is_too)
filter_or_fault (Where text) wanted fault is is_too built = no_both is.0 fault (sym is.1 ∙ is_too)

not_refused : {B : Type 0} (answer : Result B Fault) (fault : Fault) → answer ≡ Err fault → answer ≢ Err BadPattern → fault ≢ BadPattern
not_refused answer fault e built k = built (e ∙ ap Err k)

-- the same records pass both filters, and both take all of a set or neither does
pub record AreAlike (wanted other : Filter) : Type 0 where
  pub into : (pieces : List Piece) (place : ℕ) → Passes wanted pieces place → Passes other pieces place
  pub back : (pieces : List Piece) (place : ℕ) → Passes other pieces place → Passes wanted pieces place
  pub allowed_too : (force : Bool) → allowed wanted force ≡ allowed other force

same_allowed : (ask : Ask) (wanted other : Filter) → IsFilter ask (Ok wanted) → IsFilter ask (Ok other) → (force : Bool) → allowed wanted force ≡ allowed other force
same_allowed All wanted other is is_too force = ap (λ w. allowed w force) (same_value wanted other (is ∙ sym is_too))
same_allowed (Expr text) wanted other (one, is, e) (two, is_too, k) force = ap (λ w. allowed w force) e ∙ sym (ap (λ w. allowed w force) k)
same_allowed (Index list) wanted other is is_too force = ap (λ w. allowed w force) (same_indexes list wanted other is is_too)
same_allowed (Quick text) wanted other is is_too force = ap (λ w. allowed w force) (same_value wanted other (is ∙ sym is_too))
same_allowed (Where text) wanted other is is_too force = ap (λ w. allowed w force) (same_values text wanted other is is_too)

alike_of : (ask : Ask) (wanted other : Filter) → IsFilter ask (Ok wanted) → IsFilter ask (Ok other) → AreAlike wanted other
alike_of ask wanted other is is_too = record {
  into = same_passes ask wanted other is is_too;
  back = same_passes ask other wanted is_too is;
  allowed_too = same_allowed ask wanted other is is_too;
}

-- the filters that are asked for are alike
pub AgreeLike-filter : (ask : Ask) → AgreeLike AreAlike (IsFilter ask) (IsFilter ask)
AgreeLike-filter ask (Ok a) (Ok b) is is_too built built_too = alike_of ask a b is is_too
AgreeLike-filter ask (Ok a) (Err g) is is_too built built_too = filter_or_fault ask a g is is_too (not_refused (Err g) g refl built_too)
AgreeLike-filter ask (Err f) (Ok b) is is_too built built_too = filter_or_fault ask b f is_too is (not_refused (Err f) f refl built)
AgreeLike-filter ask (Err f) (Err g) is is_too built built_too =
    filter_fault ask f g is is_too (not_refused (Err f) f refl built) (not_refused (Err g) g refl built_too)

-- a step after the filter has one answer
pub HasOneBut-filter : {B : Type 0} (ask : Ask) (next : Filter → Result B Fault → Type 0)
    → ((wanted other : Filter) → AreAlike wanted other → (r : Result B Fault) → next wanted r → next other r)
    → ((wanted : Filter) → HasOneBut (next wanted)) → HasOneBut (Then (IsFilter ask) next)
HasOneBut-filter ask next same next_one =
    AgreeBut-like AreAlike (IsFilter ask) (IsFilter ask) next next (AgreeLike-filter ask)
    (λ a b _ _ alike one other h k. next_one b one other (same a b alike one h) k)

-- ---- the text

-- the text of these elements with this schema
abbrev pub with_schema : List Piece → Described → DescribedText
with_schema pieces schema = record { pieces = pieces; schema = schema }

-- steps agree on any two schemas that these elements have
abbrev pub AgreeOnSchemas : {B : Type 0} → List Piece → (DescribedText → Result B Fault → Type 0) → Type 0
AgreeOnSchemas pieces next = (schema same : Described) → IsSchema pieces (Ok schema) → IsSchema pieces (Ok same)
    → AgreeBut (next (with_schema pieces schema)) (next (with_schema pieces same))

-- a step after the schema has one answer where it gives the same for each schema of the elements
HasOneBut-schema : {B : Type 0} (pieces : List Piece) (next : DescribedText → Result B Fault → Type 0) → AgreeOnSchemas pieces next
    → HasOneBut (Then (IsSchema pieces) (λ schema. next (with_schema pieces schema)))
HasOneBut-schema pieces next agree =
    AgreeBut-like SameSchemas (IsSchema pieces) (IsSchema pieces) _ _ (AgreeLike-schema pieces) (λ schema same is is_too _. agree schema same is is_too)

by_schema : {B : Type 0} (pieces : List Piece) (next : DescribedText → Result B Fault → Type 0) (answer : Result B Fault)
    → Then (AreDescribed pieces) next answer → Then (IsSchema pieces) (λ schema. next (with_schema pieces schema)) answer
by_schema pieces next answer is =
    Then-next (IsSchema pieces) (λ schema. Then (λ given. given ≡ Ok (with_schema pieces schema)) next) (λ schema. next (with_schema pieces schema))
    (λ schema r h. Then-value (with_schema pieces schema) next r h) answer
    (Then-parts (IsSchema pieces) (λ schema given. given ≡ Ok (with_schema pieces schema)) next answer is)

pub HasOneBut-elements : {B : Type 0} (pieces : List Piece) (next : DescribedText → Result B Fault → Type 0) → AgreeOnSchemas pieces next
    → HasOneBut (Then (AreDescribed pieces) next)
HasOneBut-elements pieces next agree one other is is_too =
    HasOneBut-schema pieces next agree one other (by_schema pieces next one is) (by_schema pieces next other is_too)

pub HasOneBut-text : {B : Type 0} (file : List ℕ) (next : DescribedText → Result B Fault → Type 0) → ((pieces : List Piece) → AgreeOnSchemas pieces next)
    → HasOneBut (Then (IsDescribedText file) next)
HasOneBut-text file next agree one other is is_too =
    HasOneBut-Then (IsReading file) (λ pieces. Then (AreDescribed pieces) next) (HasOneBut-of (IsReading file) (one_reading file))
    (λ pieces _. HasOneBut-elements pieces next (agree pieces)) one other
    (Then-parts (IsReading file) AreDescribed next one is) (Then-parts (IsReading file) AreDescribed next other is_too)

-- a text can be read, or there is one reason why it can't, a refused pattern aside
abbrev pub ReadsOne : {X : Type 0} → (Result X Fault → Type 0) → Type 0
ReadsOne Reads = AgreeLike (λ _ _. Unit {0}) Reads Reads

like_any : {A : Type 0} (R : A → A → Type 0) (one other : Result A Fault) → AreLike R one other → AreLike (λ _ _. Unit {0}) one other
like_any R (Ok a) (Ok b) alike = tt
like_any R (Ok a) (Err fault) alike = absurd alike
like_any R (Err fault) (Ok b) alike = absurd alike
like_any R (Err fault) (Err other) same = same

pub ReadsOne-text : (text : List ℕ) → ReadsOne (IsDescribedText text)
ReadsOne-text text one other is is_too built built_too = like_any SameTexts one other (AgreeLike-described text one other is is_too built built_too)

-- a step that doesn't ask for what was read has one answer after it
pub HasOneBut-after : {X A : Type 0} (first : Result X Fault → Type 0) (step : Result A Fault → Type 0) → ReadsOne first → HasOneBut step
    → HasOneBut (Then first (λ _. step))
HasOneBut-after first step reads has_one = AgreeBut-like (λ _ _. Unit {0}) first first (λ _. step) (λ _. step) reads (λ a b _ _ _. has_one)

pub HasOneBut-once_read : {A : Type 0} (file : List ℕ) (step : Result A Fault → Type 0) → HasOneBut step → HasOneBut (Then (IsDescribedText file) (λ _. step))
HasOneBut-once_read file step has_one = HasOneBut-after (IsDescribedText file) step (ReadsOne-text file) has_one

-- a step that asks of the schema only its sets gives the same for each schema of the elements
pub agree_by_sets : {B : Type 0} (next : List Piece → List Set_ → Result B Fault → Type 0)
    → ((pieces : List Piece) (sets : List Set_) → HasOneBut (next pieces sets))
    → (pieces : List Piece) → AgreeOnSchemas pieces (λ text. next text.pieces text.schema.sets)
agree_by_sets next has_one pieces schema same is is_too one other h k =
    let sets = (one_schema pieces (Ok schema) (Ok same) is is_too (no_both schema BadPattern) (no_both same BadPattern)).0 in
    has_one pieces same.sets one other (subst (λ ss. next pieces ss one) sets h) k

-- ---- a selection

pub same_selection : (pieces : List Piece) (sets : List Set_) (record_type : Option (List ℕ)) (wanted other : Filter)
    → ((some : List Piece) (place : ℕ) → Passes wanted some place → Passes other some place)
    → ((some : List Piece) (place : ℕ) → Passes other some place → Passes wanted some place)
    → (r : Result (List ℕ) Fault) → IsSelection pieces sets record_type wanted r → IsSelection pieces sets record_type other r
same_selection pieces sets record_type wanted other into back (Ok selected) (s, is, are) = (
  s,
  is,
  record {
    records = are.records;
    are = are.are;
    ascending = are.ascending;
    members = λ i. (
      λ contains. let m = (are.members i).0 contains in (m.0, m.1, into _ _ m.2),
      λ m. (are.members i).1 (m.0, m.1, back _ _ m.2),
    );
  },
)
same_selection pieces sets record_type wanted other into back (Err fault) is = is
