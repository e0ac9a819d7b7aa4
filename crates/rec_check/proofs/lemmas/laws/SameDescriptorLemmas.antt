-- Texts with the same descriptors have schemas with the same rules.
use Rattle.std.proofs.Common.{◌≡◌, ◌∙◌, ℕ, ◌+◌, ◌-◌, true, false, cond, List, [], ◌∷◌, ◌++◌, length, map, take, position, replicate, slice_get, Option, Some, None, refl, ap, ap₂, sym, subst, inl, inr}
use Rattle.std.proofs.Common.{suc, zero, arith}
use Rattle.std.proofs.lemmas.Bool.{cases_Bool, false≢true}
use Rattle.std.proofs.lemmas.List.{append_assoc, append-nil, length_push, map-append}
use Rattle.std.specs.List.{AllZip, cons_option, flat_map}
use Rattle.std.specs.Option.{is_some, option_and_then}
use Rattle.std.specs.Str.{bytes_eq}
use Rattle.std.specs.declared.ops.Range.{Range}
use Rattle.rec_text.specs.Elements.{Piece}
use Rattle.rec_text.specs.Records.{AreRecords, elements_in, record_at}
use Rattle.rec_text.proofs.lemmas.records.RecordLemmas.{OneListOfRecords-holds}
use Rattle.rec_check.specs.declared.set.Set_.{Set_}
use Rattle.rec_check.specs.Descriptors.{DescriptorElement, StandsAt, flaw_of, rec_name, type_of, types_of}
use Rattle.rec_check.specs.proving.Flaws.{FieldIsRead, element_flaw, field_flaw}
use Rattle.rec_check.specs.Rules.{Rules, no_rules, AreRules}
use Rattle.rec_check.specs.Schemas.{Described, IsDescribed, IsRuled}
use Rattle.rec_check.specs.Sets.{named_in, AreFrom, AreSets, BeginsAt}
use Rattle.rec_check.specs.Soundness.{says, SameDescriptors, NewDescriptor}
use Rattle.rec_check.specs.proving.Steps.{record_types, with_member, with_record, HaveTypes}
use Rattle.rec_check.specs.proving.Reading.{untyped}
use Rattle.rec_text.specs.Bytes.{is_among}
use Rattle.rec_check.proofs.lemmas.descriptors.DescriptorLemmas.{AllZip-push, each_built}
use Rattle.rec_check.proofs.lemmas.descriptors.FlawLemmas.{field_flaw-here, own_flaw, stands-field}
use Rattle.rec_check.proofs.lemmas.descriptors.SchemaLemmas.{IsSchemaUpTo, IsRuled-longer, grown, here, none_there, record_at-following, rules_grow, schema_all, schema_none}
use Rattle.rec_check.proofs.lemmas.SetLemmas.{AreTyped, Named, filter_map-append, record_types-AreSets, nothing, set_of, some_named, types_among}
use Rattle.rec_check.proofs.lemmas.laws.SoundLemmas.{AreSound, AreSound-alike, AreSound-all, AreSound-heads, AreSound-push, AreRules-alike, heads, heads_no, heads_yes, new_flaw, new_rules, new_type}
use Rattle.rec_check.proofs.lemmas.laws.SoundLemmas.{types_in, types_in-alike, types_in-heads}
use Rattle.rec_check.proofs.lemmas.TypeLemmas.{list_any-position, position-HaveTypes, no_place}

-- the elements of some records
abbrev owns_of : List Piece → List (Range ℕ) → List (List Piece)
owns_of pieces records = map (elements_in pieces) records

types_among-owns : (pieces : List Piece) (records : List (Range ℕ)) → types_among (types_of pieces records) ≡ types_in (owns_of pieces records)
types_among-owns pieces [] = refl
types_among-owns pieces (r ∷ records) = ap (cons_option (type_of (elements_in pieces r))) (types_among-owns pieces records)

-- ---- what a schema says of the descriptors

module _ (pieces : List Piece) where
  -- nothing is wrong with an element of a descriptor
  abbrev AllSound : List (Range ℕ) → Type 0
  AllSound records = (i : ℕ) (element : DescriptorElement) → StandsAt pieces records i element → flaw_of element ≡ None

  module _ (done : List (Range ℕ)) (r : Range ℕ) (rest : List (Range ℕ)) (are : AreRecords pieces (done ++ r ∷ rest)) (sound : AllSound (done ++ r ∷ rest)) where
    abbrev named : List (List ℕ)
    named = types_among (types_of pieces done)

    abbrev own : List Piece
    own = elements_in pieces r

    field_sound : (k : ℕ) (found : Option Piece) → is_some (type_of own) ≡ true → slice_get own k ≡ found → field_flaw named own k ≡ None
    field_sound k None descriptor past = ap (option_and_then (element_flaw named (take k own))) past
    field_sound k (Some piece) descriptor here =
        field_flaw-here pieces done r rest are descriptor k piece here ∙ sound (r.start + k) _ (stands-field pieces done r rest are descriptor k piece here)

    own_sound : (k : ℕ) → own_flaw named own k ≡ None
    own_sound k = elim (cases_Bool (is_some (type_of own))) [
      | inl descriptor ↦ ap (λ b. cond b (field_flaw named own k) None) descriptor ∙ field_sound k (slice_get own k) descriptor refl
      | inr other ↦ ap (λ b. cond b (field_flaw named own k) None) other
    ]

  all_sound : (done rest : List (Range ℕ)) → AreRecords pieces (done ++ rest) → AllSound (done ++ rest) → AreSound (types_among (types_of pieces done)) (owns_of pieces rest)
  all_sound done [] are sound = tt
  all_sound done (r ∷ rest) are sound =
      let parts : (done ++ r ∷ []) ++ rest ≡ done ++ r ∷ rest = append_assoc done (r ∷ []) rest in
      let types : types_among (types_of pieces (done ++ r ∷ [])) ≡ types_among (types_of pieces done) ++ cons_option (type_of (elements_in pieces r)) [] =
      ap types_among (map-append (λ q. type_of (elements_in pieces q)) done (r ∷ [])) ∙ filter_map-append (λ t. t) (types_of pieces done) (type_of (elements_in pieces r) ∷ []) in
      let more : AreSound (types_among (types_of pieces (done ++ r ∷ []))) (owns_of pieces rest) =
      all_sound (done ++ r ∷ []) rest (subst (AreRecords pieces) (sym parts) are) (subst AllSound (sym parts) sound) in
      (own_sound done r rest are sound, subst (λ ns. AreSound ns (owns_of pieces rest)) types more)

-- what is known of the first record of a typed set, and of those after it
typed_parts : (record_type : Named) (head : Option ℕ) (start end at : ℕ) (t : Named) (more types : List Named) → is_some record_type ≡ true → BeginsAt at (set_of record_type head start end)
    → named_in (set_of record_type head start end) ++ more ≡ t ∷ types
    → (is_some t ≡ true) × (head ≡ Some at) × (end ≡ at + 1 + (end - start)) × (replicate (end - start) nothing ++ more ≡ types)
typed_parts None head start end at t more types typed begins joined = absurd (false≢true typed)
typed_parts (Some record_type) head start end at t more types typed begins joined =
    let first : Some record_type ≡ t = cc in
    let rest : replicate (end - start) nothing ++ more ≡ types = cc in
    (ap is_some (sym first), begins.1.0, omega (arith, begins.0, begins.1.1), rest)

untyped_parts : (record_type : Named) (head : Option ℕ) (start end at : ℕ) (more types : List Named) → record_type ≡ None → BeginsAt at (set_of record_type head start end)
    → named_in (set_of record_type head start end) ++ more ≡ types
    → (head ≡ None) × (end ≡ at + (end - start)) × (replicate (end - start) nothing ++ more ≡ types)
untyped_parts None head start end at more types none begins joined = (begins.1.0, omega (arith, begins.0, begins.1.1), joined)
untyped_parts (Some record_type) head start end at more types none begins joined = let no : ⊥ = cc in absurd no

module _ (pieces : List Piece) (records : List (Range ℕ)) (asked : Rules) where
  abbrev RuledBy : Option ℕ → Type 0
  RuledBy head = elim head as (λ h. Type 0) [ None ↦ asked ≡ no_rules | Some at ↦ AreRules (record_at pieces records at) asked ]

  ruled_head : (head other : Option ℕ) → head ≡ other → RuledBy head → RuledBy other
  ruled_head head other same ruled = subst RuledBy same ruled

module _ (pieces : List Piece) where
  -- the rules of typed sets, before whose first descriptor these records lie, are those of the descriptors
  rules_of : (done rest : List (Range ℕ)) (n : ℕ) (sets : List Set_) (rules : List Rules) → AreTyped sets → AreFrom (length done + n) sets
      → replicate n nothing ++ flat_map named_in sets ≡ types_of pieces rest → AllZip (IsRuled pieces (done ++ rest)) sets rules → AllZip AreRules (heads (owns_of pieces rest)) rules
  rules_of done [] zero [] [] typed from joined ruled = tt
  rules_of done [] zero [] (a ∷ rules) typed from joined ruled = absurd ruled
  rules_of done [] zero (s ∷ sets) rules typed from joined ruled =
      absurd (some_named s.kind (replicate (s.members.end - s.members.start) nothing) (flat_map named_in sets) typed.0 (sym joined))
  rules_of done [] (suc n) sets rules typed from joined ruled = let no : ⊥ = cc in absurd no
  rules_of done (r ∷ rest) (suc n) sets rules typed from joined ruled =
      let first : nothing ≡ type_of (elements_in pieces r) = cc in
      let left : replicate n nothing ++ flat_map named_in sets ≡ types_of pieces rest = cc in
      let at : length done + suc n ≡ length (done ++ r ∷ []) + n = omega (arith, length_push done r) in
      let all : AllZip (IsRuled pieces ((done ++ r ∷ []) ++ rest)) sets rules = subst (λ rs. AllZip (IsRuled pieces rs) sets rules) (sym (append_assoc done (r ∷ []) rest)) ruled in
      subst (λ hs. AllZip AreRules hs rules) (sym (heads_no (elements_in pieces r) (owns_of pieces rest) (ap is_some (sym first))))
      (rules_of (done ++ r ∷ []) rest n sets rules typed (subst (λ m. AreFrom m sets) at from) left all)
  rules_of done (r ∷ rest) zero [] rules typed from joined ruled = let no : ⊥ = cc in absurd no
  rules_of done (r ∷ rest) zero (s ∷ sets) [] typed from joined ruled = absurd ruled
  rules_of done (r ∷ rest) zero (s ∷ sets) (a ∷ rules) typed from joined ruled =
      let n : ℕ = s.members.end - s.members.start in
      let parts = typed_parts s.kind s.head s.members.start s.members.end (length done + zero) (type_of (elements_in pieces r)) (flat_map named_in sets) (types_of pieces rest) typed.0 from.0 joined in
      let here_is : length done + zero ≡ length done = omega arith in
      let own : record_at pieces (done ++ r ∷ rest) (length done + zero) ≡ elements_in pieces r = ap (record_at pieces (done ++ r ∷ rest)) here_is ∙ record_at-following pieces done r rest in
      let asked : AreRules (elements_in pieces r) a = subst (λ fs. AreRules fs a) own (ruled_head pieces (done ++ r ∷ rest) a s.head (Some (length done + zero)) parts.1 ruled.0) in
      let at : s.members.end ≡ length (done ++ r ∷ []) + n = omega (arith, length_push done r, parts.2) in
      let all : AllZip (IsRuled pieces ((done ++ r ∷ []) ++ rest)) sets rules = subst (λ rs. AllZip (IsRuled pieces rs) sets rules) (sym (append_assoc done (r ∷ []) rest)) ruled.1 in
      subst (λ hs. AllZip AreRules hs (a ∷ rules)) (sym (heads_yes (elements_in pieces r) (owns_of pieces rest) parts.0))
      (asked, rules_of (done ++ r ∷ []) rest n sets rules typed.1 (subst (λ m. AreFrom m sets) at from.1) parts.3 all)

  rules_apart : (records : List (Range ℕ)) (sets : List Set_) (rules : List Rules) → AreSets (types_of pieces records) sets → AllZip (IsRuled pieces records) sets rules
      → (rest : List Rules) × (rules ≡ no_rules ∷ rest) × AllZip AreRules (heads (owns_of pieces records)) rest
  rules_apart records [] rules are ruled = absurd are.untyped_first
  rules_apart records (s ∷ sets) [] are ruled = absurd ruled
  rules_apart records (s ∷ sets) (a ∷ rules) are ruled =
      let n : ℕ = s.members.end - s.members.start in
      let parts = untyped_parts s.kind s.head s.members.start s.members.end 0 (flat_map named_in sets) (types_of pieces records) are.untyped_first.0 are.places.0 are.joined in
      let bare : a ≡ no_rules = ruled_head pieces records a s.head None parts.0 ruled.0 in
      (rules, ap (λ first. first ∷ rules) bare, rules_of [] records n sets rules are.untyped_first.1 (subst (λ m. AreFrom m sets) parts.1 are.places.1) parts.2 ruled.1)

-- the types of the sets
typed_type : (record_type : Named) (types : List (List ℕ)) → is_some record_type ≡ true → ◌≡◌ {A = List Named} (record_type ∷ map Some types) (map Some (cons_option record_type types))
typed_type None types typed = absurd (false≢true typed)
typed_type (Some record_type) types typed = refl

typed_types : (sets : List Set_) → AreTyped sets → ◌≡◌ {A = List Named} (map (λ s. s.kind) sets) (map Some (record_types sets))
typed_types [] typed = refl
typed_types (s ∷ sets) typed = ap (λ ks. s.kind ∷ ks) (typed_types sets typed.1) ∙ typed_type s.kind (record_types sets) typed.0

have_types : (types : List Named) (sets : List Set_) → AreSets types sets → HaveTypes sets (types_among types)
have_types types [] are = absurd are.untyped_first
have_types types (s ∷ sets) are =
    let none : record_types (s ∷ sets) ≡ record_types sets = ap (λ k. cons_option k (record_types sets)) are.untyped_first.0 in
    ap₂ (λ k ks. k ∷ ks) are.untyped_first.0 (typed_types sets are.untyped_first.1 ∙ ap (λ ks. map Some ks) (sym none ∙ record_types-AreSets types (s ∷ sets) are))

-- a schema, as its descriptors give it
pub record IsGiven (pieces : List Piece) (records : List (Range ℕ)) (schema : Described) (rules : List Rules) : Type 0 where
  pub rules_are : schema.rules ≡ no_rules ∷ rules
  pub types_are : HaveTypes schema.sets (types_in (owns_of pieces records))

-- where a text has a schema, its descriptors are sound and have these rules
pub record AreApart (pieces : List Piece) (records : List (Range ℕ)) (schema : Described) : Type 0 where
  pub sound : AreSound [] (owns_of pieces records)
  pub rules : List Rules
  pub asked : AllZip AreRules (heads (owns_of pieces records)) rules
  pub given : IsGiven pieces records schema rules

types_given : (pieces : List Piece) (records : List (Range ℕ)) (schema : Described) → AreSets (types_of pieces records) schema.sets → HaveTypes schema.sets (types_in (owns_of pieces records))
types_given pieces records schema are = subst (HaveTypes schema.sets) (types_among-owns pieces records) (have_types (types_of pieces records) schema.sets are)

pub schema_apart : (pieces : List Piece) (records : List (Range ℕ)) (schema : Described) → AreRecords pieces records → IsDescribed pieces schema → AreApart pieces records schema
schema_apart pieces records schema are is =
    let one : is.records ≡ records = OneListOfRecords-holds.records pieces is.records records is.are are in
    let sets = subst (λ rs. AreSets (types_of pieces rs) schema.sets) one is.sets in
    let rules = rules_apart pieces records schema.sets schema.rules sets (subst (λ rs. AllZip (IsRuled pieces rs) schema.sets schema.rules) one is.rules) in
    record {
      sound = all_sound pieces [] records are (subst (AllSound pieces) one is.sound);
      rules = rules.0;
      asked = rules.2;
      given = record { rules_are = rules.1; types_are = types_given pieces records schema sets };
    }

-- ---- a schema is made of sound descriptors and their rules

record_types-with_member : (sets : List Set_) (index : ℕ) → record_types (with_member sets index) ≡ record_types sets
record_types-with_member [] index = refl
record_types-with_member (s ∷ []) index = refl
record_types-with_member (s ∷ next ∷ sets) index = ap (cons_option s.kind) (record_types-with_member (next ∷ sets) index)

record_types-with_record : (sets : List Set_) (index : ℕ) (record_type : Named) → record_types (with_record sets index record_type) ≡ record_types sets ++ cons_option record_type []
record_types-with_record sets index None = record_types-with_member sets index ∙ sym (append-nil (record_types sets))
record_types-with_record sets index (Some record_type) = filter_map-append (λ s. s.kind) sets _

first_rules : (d : List Piece) (ds : List (List Piece)) (rules : List Rules) → AllZip AreRules (d ∷ ds) rules
    → (asked : Rules) × (more : List Rules) × (rules ≡ asked ∷ more) × AreRules d asked × AllZip AreRules ds more
first_rules d ds [] are = absurd are
first_rules d ds (asked ∷ more) are = (asked, more, refl, are.0, are.1)

-- the schema with the rules of the descriptors to come
abbrev Completed : List Piece → Described → List Rules → Type 0
Completed pieces old rules = (new : Described) × IsDescribed pieces new × (new.rules ≡ old.rules ++ rules)

-- the fields of a sound descriptor with rules are read
fields_are_read : (named : List (List ℕ)) (own : List Piece) (rules : Rules) → is_some (type_of own) ≡ true → (k : ℕ) → own_flaw named own k ≡ None → AreRules own rules → FieldIsRead named own k
fields_are_read named own rules descriptor k sound are = record { sound = sym (ap (λ b. cond b (field_flaw named own k) None) descriptor) ∙ sound; built = each_built own rules are k }

module _ (pieces : List Piece) where
  completed : (rest : List (Range ℕ)) (count : ℕ) (old : Described) (rules : List Rules) → IsSchemaUpTo pieces count rest old → AreSound (record_types old.sets) (owns_of pieces rest)
      → AllZip AreRules (heads (owns_of pieces rest)) rules → Completed pieces old rules
  completed [] count old [] so_far sound asked = (old, schema_all pieces count [] old refl so_far, sym (append-nil old.rules))
  completed [] count old (a ∷ rules) so_far sound asked = absurd asked
  completed (r ∷ rest) count old rules so_far sound asked =
      let own : List Piece = elements_in pieces r in
      let following : AreSound (record_types (with_record old.sets count (type_of own))) (owns_of pieces rest) =
      subst (λ ns. AreSound ns (owns_of pieces rest)) (sym (record_types-with_record old.sets count (type_of own))) sound.1 in
      elim (cases_Bool (is_some (type_of own))) [
        | inl descriptor ↦
            let first = first_rules own (heads (owns_of pieces rest)) rules (subst (λ hs. AllZip AreRules hs rules) (heads_yes own (owns_of pieces rest) descriptor) asked) in
            let next : Described = record { sets = with_record old.sets count (type_of own); rules = old.rules ++ first.0 ∷ [] } in
            let grows = rules_grow pieces count (r ∷ rest) old r rest refl so_far count next first.0 (type_of own) refl descriptor first.3 refl refl in
            let read = λ (is : is_some (type_of own) ≡ true) (k : ℕ). fields_are_read (record_types old.sets) own first.0 is k (sound.0 k) first.3 in
            let more = completed rest (count + 1) next first.1 (grown pieces count (r ∷ rest) old r rest refl so_far count (count + 1) next refl refl read refl grows) following first.4 in
            (more.0, more.1, more.2 ∙ append_assoc old.rules (first.0 ∷ []) first.1 ∙ ap (λ rs. old.rules ++ rs) (sym first.2))
        | inr member ↦
            let next : Described = record { sets = with_record old.sets count (type_of own); rules = old.rules } in
            let now = here pieces count (r ∷ rest) old r rest refl so_far in
            let stays = subst (λ t. AllZip (IsRuled pieces (now.done ++ r ∷ rest)) (with_record old.sets count t) old.rules) (sym (none_there (type_of own) member))
            (IsRuled-longer pieces (now.done ++ r ∷ rest) count old.sets old.rules now.rules_are) in
            completed rest (count + 1) next rules (grown pieces count (r ∷ rest) old r rest refl so_far count (count + 1) next refl refl (λ is. absurd (false≢true (sym member ∙ is))) refl stays)
            following
            (subst (λ hs. AllZip AreRules hs rules) (heads_no own (owns_of pieces rest) member) asked)
      ]

schema_made : (pieces : List Piece) (records : List (Range ℕ)) (rules : List Rules) → AreRecords pieces records → AreSound [] (owns_of pieces records)
    → AllZip AreRules (heads (owns_of pieces records)) rules → (new : Described) × IsDescribed pieces new × IsGiven pieces records new rules
schema_made pieces records rules are sound asked =
    let made = completed pieces records 0 untyped rules (schema_none pieces records are) sound asked in
    let is : IsDescribed pieces made.0 = made.1 in
    let one : is.records ≡ records = OneListOfRecords-holds.records pieces is.records records is.are are in
    (made.0, is, record { rules_are = made.2; types_are = types_given pieces records made.0 (subst (λ rs. AreSets (types_of pieces rs) made.0.sets) one is.sets) })

-- ---- the laws

pub same_descriptors : SameDescriptors
same_descriptors pieces others records ranges schema are are_too alike is =
    let old = schema_apart pieces records schema are is in
    let ds = heads (owns_of pieces records) in
    let es = heads (owns_of others ranges) in
    let sound = AreSound-all [] (owns_of others ranges) (AreSound-alike [] ds es alike (AreSound-heads [] (owns_of pieces records) old.sound)) in
    let made = schema_made others ranges old.rules are_too sound (AreRules-alike ds es old.rules alike old.asked) in
    let types : types_in (owns_of others ranges) ≡ types_in (owns_of pieces records) =
    sym (types_in-heads (owns_of others ranges)) ∙ sym (types_in-alike ds es alike) ∙ types_in-heads (owns_of pieces records) in
    (made.0, made.1, made.2.rules_are ∙ sym old.given.rules_are, made.2.types_are ∙ ap (λ ts. None ∷ map Some ts) types ∙ sym old.given.types_are)

-- a list that is made of another, and of one more
split_last : {X Y : Type 0} (f : X → Y) (es : List X) (ys : List Y) (y : Y) → map f es ≡ ys ++ y ∷ []
    → (fs : List X) × (e : X) × (es ≡ fs ++ e ∷ []) × (map f fs ≡ ys) × (f e ≡ y)
split_last f [] [] y made = let no : ⊥ = cc in absurd no
split_last f [] (x ∷ ys) y made = let no : ⊥ = cc in absurd no
split_last f (e ∷ []) [] y made = ([], e, refl, refl, cc)
split_last f (e ∷ next ∷ es) [] y made = let no : ⊥ = cc in absurd no
split_last f (e ∷ es) (x ∷ ys) y made =
    let first : f e ≡ x = cc in
    let rest : map f es ≡ ys ++ y ∷ [] = cc in
    let parts = split_last f es ys y rest in
    (e ∷ parts.0, parts.1, ap (λ l. e ∷ l) parts.2, ap₂ (λ z zs. z ∷ zs) first parts.3, parts.4)

pub new_descriptor : NewDescriptor
new_descriptor pieces others records ranges schema record_type are are_too more plain absent is =
    let old = schema_apart pieces records schema are is in
    let ds = heads (owns_of pieces records) in
    let es = heads (owns_of others ranges) in
    let parts = split_last (map says) es (map (map says) ds) ((rec_name, record_type) ∷ []) more in
    let fs = parts.0 in
    let e = parts.1 in
    let named : types_in (owns_of pieces records) ≡ types_in fs = sym (types_in-heads (owns_of pieces records)) ∙ types_in-alike ds fs (sym parts.3) in
    let nowhere = no_place (position (bytes_eq record_type) (types_in (owns_of pieces records)))
    (sym (position-HaveTypes schema.sets (types_in (owns_of pieces records)) old.given.types_are record_type) ∙ absent) in
    let fresh : is_among (types_in fs) record_type ≡ false = ap (λ ts. is_among ts record_type) (sym named) ∙ list_any-position (bytes_eq record_type) (types_in (owns_of pieces records)) nowhere in
    let prefix = AreSound-alike [] ds fs (sym parts.3) (AreSound-heads [] (owns_of pieces records) old.sound) in
    let sound = subst (AreSound []) (sym parts.2) (AreSound-push [] fs e prefix (new_flaw record_type e parts.4 plain (types_in fs) fresh)) in
    let asked = subst (λ l. AllZip AreRules l (old.rules ++ no_rules ∷ [])) (sym parts.2)
    (AllZip-push AreRules fs old.rules e no_rules (AreRules-alike ds fs old.rules (sym parts.3) old.asked) (new_rules record_type e parts.4)) in
    let made = schema_made others ranges (old.rules ++ no_rules ∷ []) are_too (AreSound-all [] (owns_of others ranges) sound) asked in
    let types : types_in (owns_of others ranges) ≡ types_in (owns_of pieces records) ++ record_type ∷ [] =
    sym (types_in-heads (owns_of others ranges)) ∙ ap types_in parts.2 ∙ filter_map-append type_of fs (e ∷ [])
    ∙ ap₂ (λ ts t. ts ++ cons_option t []) (sym named) (new_type record_type e parts.4 plain) in (
      made.0,
      made.1,
      made.2.rules_are ∙ ap (λ rs. rs ++ no_rules ∷ []) (sym old.given.rules_are),
      made.2.types_are ∙ ap (λ ts. None ∷ map Some ts) types ∙ ap (λ ks. None ∷ ks) (map-append Some (types_in (owns_of pieces records)) (record_type ∷ []))
          ∙ ap (λ ks. ks ++ Some record_type ∷ []) (sym old.given.types_are),
    )
