-- The meaning of a kind: there is one, and it is found by at most as many steps as there are definitions.
use Rattle.std.proofs.Common.{◌≡◌, ◌∙◌, inl, inr, ℕ, zero, suc, ◌<◌, ◌≤◌, Bool, false, not, List, [], ◌∷◌, filter, length, Option, Some, None, refl, ap, ap₂, sym, subst, arith}
use Rattle.std.proofs.lemmas.Bool.{cases_Bool, false≢true}
use Rattle.std.proofs.lemmas.List.Sums.{count_by-le-length, length-filter}
use Rattle.std.proofs.lemmas.Option.{same_Some, none-some}
use Rattle.std.specs.Prelude.{if◌then◌else◌}
use Rattle.std.specs.Option.{option_and_then}
use Rattle.std.specs.Str.{bytes_eq}
use Rattle.regex.specs.Patterns.{Re}
use Rattle.rec_text.proofs.lemmas.ListLemmas.{same_bytes}
use Rattle.rec_check.specs.Meanings.{IsMeaning, MeaningIsOne, meaning_in, meaning_within}
use Rattle.rec_check.specs.Resolving.{is_known_kind, last_definition, LeadsTo, Resolves}
use Rattle.rec_check.specs.Types.{FieldType, Definition}

abbrev MeantType : Type 0
MeantType = FieldType Re

-- ---- the steps are determined

module _ (definitions : List Definition) where
  -- whatever type stands with the kind
  pub same_steps : (kind : List ℕ) (own other first second : MeantType) (steps more : List Definition)
      → LeadsTo definitions kind own steps first → LeadsTo definitions kind other more second → steps ≡ more
  same_steps kind own other first second [] [] one two = refl
  same_steps kind own other first second [] (step ∷ more) one two = absurd (false≢true (sym two.0 ∙ one.0))
  same_steps kind own other first second (step ∷ steps) [] one two = absurd (false≢true (sym one.0 ∙ two.0))
  same_steps kind own other first second (step ∷ steps) (next ∷ more) one two =
      let same : next ≡ step = same_Some _ _ (sym two.1 ∙ one.1) in
      let following : LeadsTo definitions step.kind step.value_type more second = subst (λ (d : Definition). LeadsTo definitions d.kind d.value_type more second) same two.2 in
      ap₂ ◌∷◌ (sym same) (same_steps step.kind step.value_type step.value_type first second steps more one.2 following)

  same_end : (kind : List ℕ) (own first second : MeantType) (steps : List Definition) → LeadsTo definitions kind own steps first → LeadsTo definitions kind own steps second → first ≡ second
  same_end kind own first second [] one two = one.1 ∙ sym two.1
  same_end kind own first second (step ∷ steps) one two = same_end step.kind step.value_type first second steps one.2 two.2

  pub resolves_once : (kind : List ℕ) (own first second : MeantType) → Resolves definitions kind own first → Resolves definitions kind own second → first ≡ second
  resolves_once kind own first second one two =
      same_end kind own first second two.0 (subst (λ steps. LeadsTo definitions kind own steps first) (same_steps kind own own first second one.0 two.0 one.1 two.1) one.1) two.1

-- ---- no more steps than definitions

-- the definitions of the other names
abbrev without : List ℕ → List Definition → List Definition
without name definitions = filter (λ definition. not (bytes_eq definition.name name)) definitions

abbrev pub or_first : Option Definition → Definition → List ℕ → Option Definition
or_first later first name = elim later [ Some definition ↦ Some definition | None ↦ if bytes_eq first.name name then Some first else None ]

pub or_first-other : (later : Option Definition) (first : Definition) (name : List ℕ) → bytes_eq first.name name ≡ false → or_first later first name ≡ later
or_first-other (Some definition) first name other = refl
or_first-other None first name other = rw other refl

last_definition-without : (name other : List ℕ) → bytes_eq name other ≡ false → (definitions : List Definition) → last_definition (without name definitions) other ≡ last_definition definitions other
last_definition-without name other apart [] = refl
last_definition-without name other apart (first ∷ later) = elim (cases_Bool (bytes_eq first.name name)) [
  | inl named ↦ rw named (last_definition-without name other apart later
      ∙ sym (or_first-other (last_definition later other) first other (ap (λ n. bytes_eq n other) (same_bytes first.name name named) ∙ apart)))
  | inr unnamed ↦ rw unnamed (ap (λ found. or_first found first other) (last_definition-without name other apart later))
]

length-without-le : (name : List ℕ) (definitions : List Definition) → length (without name definitions) ≤ length definitions
length-without-le name definitions =
    let p : Definition → Bool = λ definition. not (bytes_eq definition.name name) in
    let size = length-filter p definitions in
    let most = count_by-le-length p definitions in
    omega arith

-- one of them at least has the name
length-without : (name : List ℕ) (definitions : List Definition) (definition : Definition) → last_definition definitions name ≡ Some definition → length (without name definitions) < length definitions
length-without name [] definition found = absurd (none-some definition found)
length-without name (first ∷ later) definition found = elim (cases_Bool (bytes_eq first.name name)) [
  | inl named ↦ rw named (let most = length-without-le name later in omega arith)
  | inr unnamed ↦ rw unnamed (let fewer = length-without name later definition (sym (or_first-other (last_definition later name) first name unnamed) ∙ found) in omega arith)
]

-- fewer steps than a name takes don't pass it
leads_without : (definitions : List Definition) (name : List ℕ) (most : ℕ)
    → ((own value_type : MeantType) (steps : List Definition) → LeadsTo definitions name own steps value_type → length steps ≡ most)
    → (kind : List ℕ) (own value_type : MeantType) (steps : List Definition) → length steps < most → LeadsTo definitions kind own steps value_type
    → LeadsTo (without name definitions) kind own steps value_type
leads_without definitions name most long kind own value_type [] fewer leads = leads
leads_without definitions name most long kind own value_type (step ∷ steps) fewer leads = elim (cases_Bool (bytes_eq name kind)) [
  | inl same ↦
      let takes : length (step ∷ steps) ≡ most = long own value_type (step ∷ steps) (subst (λ k. LeadsTo definitions k own (step ∷ steps) value_type) (sym (same_bytes name kind same)) leads) in
      absurd (omega arith)
  | inr other ↦ (leads.0, last_definition-without name kind other definitions ∙ leads.1, leads_without definitions name most long step.kind step.value_type value_type steps (omega arith) leads.2)
]

few_steps : (most : ℕ) (definitions : List Definition) → length definitions ≤ most
    → (kind : List ℕ) (own value_type : MeantType) (steps : List Definition) → LeadsTo definitions kind own steps value_type → length steps ≤ length definitions
few_steps most definitions few kind own value_type [] leads = omega arith
few_steps zero definitions few kind own value_type (step ∷ steps) leads = let fewer = length-without kind definitions step leads.1 in absurd (omega arith)
few_steps (suc most) definitions few kind own value_type (step ∷ steps) leads =
    let fewer = length-without kind definitions step leads.1 in
    let following = leads_without definitions kind (length (step ∷ steps)) (λ other end more passes. ap length (same_steps definitions kind other own end value_type more (step ∷ steps) passes leads))
    step.kind step.value_type value_type steps (omega arith) leads.2 in
    let few_after = few_steps most (without kind definitions) (omega arith) step.kind step.value_type value_type steps following in
    omega arith

-- ---- the function

module _ (definitions : List Definition) where
  meaning_within-leads : (most : ℕ) (kind : List ℕ) (own value_type : MeantType) (steps : List Definition) → length steps ≤ most → LeadsTo definitions kind own steps value_type
      → meaning_within most definitions kind own ≡ Some value_type
  meaning_within-leads zero kind own value_type [] few leads = rw leads.0 (ap Some (sym leads.1))
  meaning_within-leads (suc most) kind own value_type [] few leads = rw leads.0 (ap Some (sym leads.1))
  meaning_within-leads zero kind own value_type (step ∷ steps) few leads = absurd (omega arith)
  meaning_within-leads (suc most) kind own value_type (step ∷ steps) few leads = rw leads.0 (rw leads.1 (meaning_within-leads most step.kind step.value_type value_type steps (omega arith) leads.2))

  -- by a definition, if any, that leads on
  resolves_by : (most : ℕ) (kind : List ℕ) (own value_type : MeantType) (found : Option Definition) → is_known_kind kind ≡ false → last_definition definitions kind ≡ found
      → ((step : Definition) → meaning_within most definitions step.kind step.value_type ≡ Some value_type → Resolves definitions step.kind step.value_type value_type)
      → option_and_then (λ step. meaning_within most definitions step.kind step.value_type) found ≡ Some value_type → Resolves definitions kind own value_type
  resolves_by most kind own value_type None unknown last next is = absurd (none-some value_type is)
  resolves_by most kind own value_type (Some step) unknown last next is = let following = next step is in (step ∷ following.0, (unknown, last, following.1))

  resolves_within : (most : ℕ) (kind : List ℕ) (own value_type : MeantType) → meaning_within most definitions kind own ≡ Some value_type → Resolves definitions kind own value_type
  resolves_within zero kind own value_type is = elim (cases_Bool (is_known_kind kind)) [
    | inl known ↦ ([], (known, sym (same_Some own value_type (sym (rw known refl) ∙ is))))
    | inr unknown ↦ absurd (none-some value_type (sym (rw unknown refl) ∙ is))
  ]
  resolves_within (suc most) kind own value_type is = elim (cases_Bool (is_known_kind kind)) [
    | inl known ↦ ([], (known, sym (same_Some own value_type (sym (rw known refl) ∙ is))))
    | inr unknown ↦ resolves_by most kind own value_type (last_definition definitions kind) unknown refl (λ step. resolves_within most step.kind step.value_type value_type) (sym (rw unknown refl)
        ∙ is)
  ]

  pub meaning_in-resolves : (kind : List ℕ) (own value_type : MeantType) → Resolves definitions kind own value_type → meaning_in definitions kind own ≡ Some value_type
  unfolding meaning_in
  meaning_in-resolves kind own value_type resolves =
      meaning_within-leads (length definitions) kind own value_type resolves.0 (few_steps (length definitions) definitions (omega arith) kind own value_type resolves.0 resolves.1) resolves.1

  pub resolves-meaning_in : (kind : List ℕ) (own value_type : MeantType) → meaning_in definitions kind own ≡ Some value_type → Resolves definitions kind own value_type
  unfolding meaning_in
  resolves-meaning_in kind own value_type is = resolves_within (length definitions) kind own value_type is

  -- ---- the law

  is_meaning : (kind : List ℕ) (own : MeantType) (answer : Option MeantType) → answer ≡ meaning_in definitions kind own → IsMeaning definitions kind own answer
  is_meaning kind own (Some value_type) is = resolves-meaning_in kind own value_type (sym is)
  is_meaning kind own None is = λ value_type resolves. none-some value_type (is ∙ meaning_in-resolves kind own value_type resolves)

  unresolved : (kind : List ℕ) (own : MeantType) (found : Option MeantType) → IsMeaning definitions kind own None → meaning_in definitions kind own ≡ found → None ≡ found
  unresolved kind own None none is = refl
  unresolved kind own (Some value_type) none is = absurd (none value_type (resolves-meaning_in kind own value_type is))

  the_meaning : (kind : List ℕ) (own : MeantType) (answer : Option MeantType) → IsMeaning definitions kind own answer → answer ≡ meaning_in definitions kind own
  the_meaning kind own (Some value_type) resolves = sym (meaning_in-resolves kind own value_type resolves)
  the_meaning kind own None none = unresolved kind own (meaning_in definitions kind own) none refl

pub one_meaning : MeaningIsOne
one_meaning definitions kind own answer = (the_meaning definitions kind own answer, is_meaning definitions kind own answer)
