-- Edits that one record asks for are one task.
use Rattle.std.proofs.Common.{◌≡◌, ◌∙◌, ℕ, Bool, true, false, not, List, [], ◌∷◌, Option, Some, None, map, codes, inl, inr, refl, sym, ap, ap₂, subst}
use Rattle.std.specs.Prelude.{Result, Ok, Err}
use Rattle.std.specs.List.{AllZip}
use Rattle.rec_text.specs.declared.fault.Fault.{Fault}
use Rattle.rec_text.specs.Elements.{Piece}
use Rattle.rec_text.specs.Steps.{Then}
use Rattle.rec_journal.specs.declared.event.Tool.{Tool}
use Rattle.rec_journal.specs.declared.event.Tool.TheVariants.{RecIns, RecDel, RecSet, RecFix}
use Rattle.rec_edit.specs.declared.request.Action.{Action}
use Rattle.rec_edit.specs.declared.request.Action.TheVariants.{Set as SetTo, Add, SetAdd, Rename, Delete as DeleteFields, Comment as CommentFields}
use Rattle.rec_edit.specs.declared.request.NewRecord.{NewRecord}
use Rattle.rec_edit.specs.declared.request.NewRecord.TheVariants.{Pairs, Text as TextOfIt}
use Rattle.rec_edit.specs.declared.request.Pair.{Pair}
use Rattle.rec_edit.specs.Task.{Wanted, Task, NewRecord as FreshRecord, of_pairs, of_text, insert, replace, delete, comment_out, set, fresh_by}
use Rattle.rec_tools.specs.declared.request.Ask.{Ask}
use Rattle.rec_tools.specs.declared.request.Ask.TheVariants.{All, Expr, Index, Quick, Where}
use Rattle.rec_tools.specs.declared.request.Pick.{Pick}
use Rattle.rec_tools.specs.declared.request.EditRequest.{EditRequest}
use Rattle.rec_tools.specs.declared.request.EditRequest.TheVariants.{Insert, Replace, Delete, CommentOut, Set, AutoFill}
use Rattle.rec_edit.specs.Options.{action_for, new_record_for}
use Rattle.rec_tools.specs.Asking.{selection_for}
use Rattle.rec_tools.specs.Batches.{AsksFor, AsksTool, IsSelectionOf, IsPickOf, IsActionOf, IsFreshOf, word_if}
use Rattle.rec_tools.specs.Requests.{IsTaskBy, IsTaskOf, AreTasks, HaveOneTask, Agree, HasOneAnswer}
use Rattle.rec_text.proofs.lemmas.StepLemmas.{Then-first, Then-next}
use Rattle.rec_tools.proofs.lemmas.batches.BatchLemmas.{one_option, one_tool, AskAlike, one_source}

-- ---- equal parts

some_item : {X : Type 0} (a b : X) → Some a ≡ Some b → a ≡ b
some_item a b same = cc

none_or_some : {X : Type 0} (a : X) → None ≡ Some a → ⊥
none_or_some a same = absurd (cc)

false_or_true : false ≡ true → ⊥
false_or_true same = absurd (cc)

same_not : (a b : Bool) → not a ≡ not b → a ≡ b
same_not true true same = refl
same_not true false same = absurd (cc)
same_not false true same = absurd (cc)
same_not false false same = refl

same_four : {W X Y Z : Type 0} (a b : W) (c d : X) (e f : Y) (g h : Z) → a ≡ b → c ≡ d → e ≡ f → g ≡ h → ◌≡◌ {A = W × X × Y × Z} (a, c, e, g) (b, d, f, h)
same_four a b c d e f g h w x y z = rw (w, x, y, z) refl

same_six : {T U V W X Y : Type 0} (a b : T) (c d : U) (e f : V) (g h : W) (i j : X) (k l : Y) → a ≡ b → c ≡ d → e ≡ f → g ≡ h → i ≡ j
    → k ≡ l → ◌≡◌ {A = T × U × V × W × X × Y} (a, c, e, g, i, k) (b, d, f, h, j, l)
same_six a b c d e f g h i j k l p q r s t u = rw (p, q, r, s, t, u) refl

same_pick : (a b : Pick) → a.kind ≡ b.kind → a.by ≡ b.by → a ≡ b
same_pick a b record_type by = ap₂ (λ record_type by. record { kind = record_type; by = by }) record_type by

same_pair : (a b : Pair) → a.name ≡ b.name → a.value ≡ b.value → a ≡ b
same_pair a b name value = ap₂ (λ name value. record { name = name; value = value }) name value

insert_too : (answer : Result Task Fault) (record_type other : Option (List ℕ)) (a b : FreshRecord) (auto automatic : Bool) → record_type ≡ other
    → a ≡ b → auto ≡ automatic → answer ≡ Ok (insert other b automatic) → answer ≡ Ok (insert record_type a auto)
insert_too answer record_type other a b auto automatic k f o told = rw (k, f, o) told

picked_too : (answer : Result Task Fault) (task_for : Wanted → Task) (a b : Pick) → a ≡ b → IsTaskBy task_for b answer → IsTaskBy task_for a answer
picked_too answer task_for a b same told = subst (λ pick. IsTaskBy task_for pick answer) (sym same) told

replace_too : (answer : Result Task Fault) (a b : Pick) (fresh new : FreshRecord) → a ≡ b → fresh ≡ new
    → IsTaskBy (λ wanted. replace wanted new) b answer → IsTaskBy (λ wanted. replace wanted fresh) a answer
replace_too answer a b fresh new p f told = rw (p, f) told

set_too : (answer : Result Task Fault) (a b : Pick) (list items : List ℕ) (action done : Action) → a ≡ b → list ≡ items → action ≡ done
    → IsTaskBy (λ wanted. set wanted items done) b answer → IsTaskBy (λ wanted. set wanted list action) a answer
set_too answer a b list items action done p l d told = rw (p, l, d) told

-- ---- edits of one record are one task

one_word : (word : List ℕ) (a b : Bool) → word_if word a ≡ word_if word b → a ≡ b
one_word word true true same = refl
one_word word true false same = absurd (cc)
one_word word false true same = absurd (cc)
one_word word false false same = refl

abbrev ask_by : Option (List ℕ) × Option (List ℕ) × Option (List ℕ) × Option (List ℕ) → Ask
ask_by (Some text, list, quick, named) = Expr text
ask_by (None, Some list, quick, named) = Index list
ask_by (None, None, Some text, named) = Quick text
ask_by (None, None, None, Some text) = Where text
ask_by (None, None, None, None) = All

ask_by-selection_for : (by : Ask) → ask_by (selection_for by) ≡ by
ask_by-selection_for All = refl
ask_by-selection_for (Expr text) = refl
ask_by-selection_for (Index list) = refl
ask_by-selection_for (Quick text) = refl
ask_by-selection_for (Where text) = refl

one_selection : (own : List Piece) (a b : Ask) → IsSelectionOf own a → IsSelectionOf own b → a ≡ b
one_selection own a b is_a is_b =
    let expression = one_option _ _ (is_a.expression ∙ sym is_b.expression) in
    let number = one_option _ _ (is_a.number ∙ sym is_b.number) in
    let quick = one_option _ _ (is_a.quick ∙ sym is_b.quick) in
    let no_value = is_a.no_value ∙ sym is_b.no_value in
    let same : selection_for a ≡ selection_for b = same_four _ _ _ _ _ _ _ _ expression number quick no_value in
    sym (ask_by-selection_for a) ∙ (ap ask_by same ∙ ask_by-selection_for b)

one_pick : (own : List Piece) (a b : Pick) → IsPickOf own a → IsPickOf own b → a ≡ b
one_pick own a b is_a is_b =
    same_pick a b (one_option a.kind b.kind (is_a.0 ∙ sym is_b.0)) (one_selection own a.by b.by is_a.1 is_b.1)

abbrev action_by : Option (List ℕ) × Option (List ℕ) × Option (List ℕ) × Option (List ℕ) × Bool × Bool → Action
action_by (Some value, add, set_add, name, deletes, comments) = SetTo value
action_by (None, Some value, set_add, name, deletes, comments) = Add value
action_by (None, None, Some value, name, deletes, comments) = SetAdd value
action_by (None, None, None, Some name, deletes, comments) = Rename name
action_by (None, None, None, None, true, comments) = DeleteFields
action_by (None, None, None, None, false, comments) = CommentFields

action_by-action_for : (action : Action) → action_by (action_for action) ≡ action
action_by-action_for (SetTo value) = refl
action_by-action_for (Add value) = refl
action_by-action_for (SetAdd value) = refl
action_by-action_for (Rename name) = refl
action_by-action_for DeleteFields = refl
action_by-action_for CommentFields = refl

one_action : (own : List Piece) (a b : Action) → IsActionOf own a → IsActionOf own b → a ≡ b
one_action own a b is_a is_b =
    let set = one_option _ _ (is_a.set ∙ sym is_b.set) in
    let add = one_option _ _ (is_a.add ∙ sym is_b.add) in
    let set_add = one_option _ _ (is_a.set_add ∙ sym is_b.set_add) in
    let rename = one_option _ _ (is_a.rename ∙ sym is_b.rename) in
    let deletes = one_word (codes "yes") _ _ (is_a.deletes ∙ sym is_b.deletes) in
    let comments = one_word (codes "yes") _ _ (is_a.comments ∙ sym is_b.comments) in
    let same : action_for a ≡ action_for b = same_six _ _ _ _ _ _ _ _ _ _ _ _ set add set_add rename deletes comments in
    sym (action_by-action_for a) ∙ (ap action_by same ∙ action_by-action_for b)

same_pairs : (pairs others : List Pair) → map (λ pair. pair.name) pairs ≡ map (λ pair. pair.name) others
    → map (λ pair. pair.value) pairs ≡ map (λ pair. pair.value) others → pairs ≡ others
same_pairs [] [] names values = refl
same_pairs [] (other ∷ others) names values = absurd (cc)
same_pairs (pair ∷ pairs) [] names values = absurd (cc)
same_pairs (pair ∷ pairs) (other ∷ others) names values =
    let name : pair.name ≡ other.name = cc in
    let value : pair.value ≡ other.value = cc in
    let rest = same_pairs pairs others (let e : map (λ pair. pair.name) pairs ≡ map (λ pair. pair.name) others = cc in e)
    (let e : map (λ pair. pair.value) pairs ≡ map (λ pair. pair.value) others = cc in e) in
    ap₂ (λ pair pairs. pair ∷ pairs) (same_pair pair other name value) rest

same_fresh : (a b : NewRecord) → (new_record_for a).0 ≡ (new_record_for b).0 → (new_record_for a).1 ≡ (new_record_for b).1
    → (new_record_for a).2 ≡ (new_record_for b).2 → fresh_by a ≡ fresh_by b
same_fresh (Pairs a) (Pairs b) names values text = ap of_pairs (same_pairs a.items b.items names values)
same_fresh (Pairs a) (TextOfIt b) names values text = absurd (none_or_some b text)
same_fresh (TextOfIt a) (Pairs b) names values text = absurd (none_or_some a (sym text))
same_fresh (TextOfIt a) (TextOfIt b) names values text = ap of_text (some_item a b text)

one_fresh : (own : List Piece) (a b : NewRecord) → IsFreshOf own a → IsFreshOf own b → fresh_by a ≡ fresh_by b
one_fresh own a b is_a is_b =
    same_fresh a b (is_a.names ∙ sym is_b.names) (is_a.values ∙ sym is_b.values) (one_option _ _ (is_a.text ∙ sym is_b.text))

same_asked : (tool : Tool) (own : List Piece) (a b : EditRequest) → AsksTool tool own a → AsksTool tool own b
    → (answer : Result Task Fault) → IsTaskOf b answer → IsTaskOf a answer
same_asked RecIns own (Insert record_type fresh auto) (Insert other new automatic) is_a is_b answer told =
    insert_too answer record_type other (fresh_by fresh) (fresh_by new) auto automatic (ap (λ (pick : Pick). pick.kind)
    (one_pick own (record { kind = record_type; by = All }) (record { kind = other; by = All }) is_a.0 is_b.0))
    (one_fresh own fresh new is_a.1 is_b.1) (same_not auto automatic (one_word (codes "no") (not auto) (not automatic) (is_a.2 ∙ sym is_b.2))) told
same_asked RecIns own (Insert record_type fresh auto) (Replace pick new) is_a is_b answer told =
    absurd (is_b.0 (one_selection own pick.by All is_b.1.1 is_a.0.1))
same_asked RecIns own (Replace pick new) (Insert record_type fresh auto) is_a is_b answer told =
    absurd (is_a.0 (one_selection own pick.by All is_a.1.1 is_b.0.1))
same_asked RecIns own (Replace pick fresh) (Replace other new) is_a is_b answer told =
    replace_too answer pick other (fresh_by fresh) (fresh_by new) (one_pick own pick other is_a.1 is_b.1) (one_fresh own fresh new is_a.2 is_b.2) told
same_asked RecDel own (Delete pick) (Delete other) is_a is_b answer told =
    picked_too answer delete pick other (one_pick own pick other is_a.1 is_b.1) told
same_asked RecDel own (Delete pick) (CommentOut other) is_a is_b answer told =
    absurd (false_or_true (one_word (codes "yes") false true (is_a.0 ∙ sym is_b.0)))
same_asked RecDel own (CommentOut pick) (Delete other) is_a is_b answer told =
    absurd (false_or_true (one_word (codes "yes") false true (is_b.0 ∙ sym is_a.0)))
same_asked RecDel own (CommentOut pick) (CommentOut other) is_a is_b answer told =
    picked_too answer comment_out pick other (one_pick own pick other is_a.1 is_b.1) told
same_asked RecSet own (Set pick list action) (Set other items done) is_a is_b answer told =
    set_too answer pick other list items action done (one_pick own pick other is_a.0 is_b.0)
    (some_item list items (one_option (Some list) (Some items) (is_a.1 ∙ sym is_b.1))) (one_action own action done is_a.2 is_b.2) told
same_asked RecFix own AutoFill AutoFill is_a is_b answer told = told
same_asked RecIns own (Insert record_type fresh auto) _ is_a is_b answer told = absurd is_b
same_asked RecIns own (Replace pick fresh) _ is_a is_b answer told = absurd is_b
same_asked RecDel own (Delete pick) _ is_a is_b answer told = absurd is_b
same_asked RecDel own (CommentOut pick) _ is_a is_b answer told = absurd is_b
same_asked RecSet own (Set pick list action) _ is_a is_b answer told = absurd is_b
same_asked RecFix own AutoFill _ is_a is_b answer told = absurd is_b
same_asked _ own _ b is_a is_b answer told = absurd is_a

-- edits of one record have the same task
same_task : (own : List Piece) (a b : EditRequest) → AsksFor own a → AsksFor own b → (answer : Result Task Fault)
    → IsTaskOf b answer → IsTaskOf a answer
same_task own a b is_a is_b =
    let tool = one_tool own is_b.0 is_a.0 is_b.1 is_a.1 in
    same_asked is_a.0 own a b is_a.2 (subst (λ tool. AsksTool tool own b) tool is_b.2)

-- all answers of a text agree
pub one_answer : (text : List ℕ) → HasOneAnswer text
one_answer text one other is is_too = agree one other (one_source text one other is is_too) where
  tasks : (edits others : List EditRequest) → AllZip (λ one other. (own : List Piece) × AsksFor own one × AsksFor own other) edits others
      → AllZip HaveOneTask edits others
  tasks [] [] all = tt
  tasks [] (b ∷ others) all = absurd all
  tasks (a ∷ edits) [] all = absurd all
  tasks (a ∷ edits) (b ∷ others) ((own, is_a, is_b), all) =
      ((λ answer. (same_task own b a is_b is_a answer, same_task own a b is_a is_b answer)), tasks edits others all)

  agree : (one other : Result (List EditRequest) Fault) → AskAlike one other → Agree one other
  agree (Ok edits) (Ok others) all = tasks edits others all
  agree (Ok edits) (Err fault) all = all
  agree (Err fault) (Ok others) all = all
  agree (Err fault) (Err other) same = same

-- edits of the same tasks have them one after another
pub same_tasks : (edits others : List EditRequest) → AllZip HaveOneTask edits others
    → (answer : Result (List Task) Fault) → AreTasks others answer → AreTasks edits answer
same_tasks [] [] all answer told = told
same_tasks [] (other ∷ others) all answer told = absurd all
same_tasks (one ∷ edits) [] all answer told = absurd all
same_tasks (one ∷ edits) (other ∷ others) (alike, all) answer told =
    let more : List EditRequest → Task → Result (List Task) Fault → Type 0 = λ rest task. Then (AreTasks rest) (λ tasks given. given ≡ Ok (task ∷ tasks)) in
    Then-first (IsTaskOf other) (IsTaskOf one) (more edits) (λ given. (alike given).1) answer
    (Then-next (IsTaskOf other) (more others) (more edits)
    (λ task. Then-first (AreTasks others) (AreTasks edits) (λ tasks given. given ≡ Ok (task ∷ tasks)) (same_tasks edits others all)) answer told)
