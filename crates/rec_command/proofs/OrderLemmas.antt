-- What a tool has to be given to ask for anything, and which orders print of the file alone.
use Rattle.std.proofs.Common.{◌≡◌, ◌⊎◌, ℕ, Bool, true, false, not, List, sym, ap, refl, ◌∙◌, subst, inl, inr, codes}
use Rattle.std.specs.Prelude.{string_bytes, Option, Some, None}
use Rattle.std.specs.Option.{unwrap_or}
use Rattle.clap.specs.Words.{Row, Text, first_of}
use Rattle.rec_select.specs.declared.info.InfoForm.{InfoForm}
use Rattle.rec_journal.specs.declared.patch.Direction.TheVariants.{Forward, Backward}
use Rattle.rec_diff.specs.declared.style.DiffStyle.{DiffStyle}
use Rattle.rec_tools.specs.declared.request.Ask.TheVariants.{All}
use Rattle.rec_tools.specs.declared.request.Form.{Form}
use Rattle.rec_tools.specs.declared.request.Pick.{Pick}
use Rattle.rec_tools.specs.declared.request.EditRequest.{EditRequest}
use Rattle.rec_tools.specs.declared.request.EditRequest.TheVariants.{Insert, Replace, Delete, CommentOut, Set, AutoFill}
use Rattle.rec_tools.specs.declared.request.Look.{Look}
use Rattle.rec_tools.specs.declared.request.Look.TheVariants.{Show, Info, Check, History, Diff, Log}
use Rattle.rec_tools.specs.declared.request.Change.TheVariants.{Edit, Batch, Undo, Redo, Revert, Forget}
use Rattle.rec_tools.specs.declared.request.Change.TheVariants.{Adopt, Write}
use Rattle.rec_disk.specs.Paths.{AreApart}
use Rattle.rec_command.specs.declared.args.JournalPath.{JournalPath}
use Rattle.rec_command.specs.declared.args.Order.{Order}
use Rattle.rec_command.specs.declared.args.Order.TheVariants.{Look as Looks, Change as Changes, Preview as Previews}
use Rattle.rec_command.specs.declared.args.ChangeOrder.{ChangeOrder}
use Rattle.rec_command.specs.declared.args.ChangeOrder.TheVariants.{Whole, BatchAt, AdoptAt, WriteAt, Through}
use Rattle.rec_command.specs.declared.tools.Tool.{Tool}
use Rattle.rec_command.specs.declared.tools.Tool.TheVariants.{RecSel, RecInf, RecFix, RecIns, RecDel, RecSet}
use Rattle.rec_command.specs.declared.tools.Tool.TheVariants.{Batch as ByBatch, Undo as ByUndo, Redo as ByRedo}
use Rattle.rec_command.specs.declared.tools.Tool.TheVariants.{Revert as ByRevert, History as ByHistory}
use Rattle.rec_command.specs.declared.tools.Tool.TheVariants.{Show as ByShow, Forget as ByForget, Adopt as ByAdopt, Write as ByWrite}
use Rattle.rec_command.specs.Words.{has_flag, form_for, form_given, info_form_for, info_form_given, before_file_given, file_given}
use Rattle.rec_command.specs.Words.{IsNumber, IsEditGiven, IsStyle, IsPick, AsksEdit, AsksLook, AsksChange, Orders, OrdersOrPreviews}
use Rattle.rec_command.specs.Words.{ReadsInputOnce}
use Rattle.rec_command.specs.Words.{HasNoJournal, IsEditJournal, IsJournal}

-- what a tool has to be given
abbrev pub Needs : Tool → List Row → Type 0
Needs RecSel options =
    ((pick : Pick) × IsPick options pick) × ((form : Form) × (form_for form ≡ form_given options))
Needs RecInf options = (form : InfoForm) × (info_form_for form ≡ info_form_given options)
Needs RecFix options =
    ((has_flag (codes "auto") options ≡ false) × (has_flag (codes "dry-run") options ≡ false))
    ⊎ ((has_flag (codes "auto") options ≡ true) × (has_flag (codes "check") options ≡ false))
Needs RecIns options = (edit : EditRequest) × AsksEdit RecIns options edit
Needs RecDel options = (edit : EditRequest) × AsksEdit RecDel options edit
Needs RecSet options = (edit : EditRequest) × AsksEdit RecSet options edit
Needs ByBatch options = (path : Text) × (first_of (codes "batch") options ≡ Some path)
Needs ByUndo options = (number : Option ℕ) × IsEditGiven (first_of (codes "through") options) number
Needs ByRedo options = (number : Option ℕ) × IsEditGiven (first_of (codes "through") options) number
Needs ByRevert options = (number : ℕ) × IsEditGiven (first_of (codes "n") options) (Some number)
Needs ByAdopt options = Unit {0}
Needs ByWrite options = ((path : Text) × (first_of (codes "new") options ≡ Some path)) × ReadsInputOnce options
Needs ByHistory options =
    (has_flag (codes "patch") options ≡ false) ⊎ ((style : DiffStyle) × IsStyle options style)
Needs ByShow options =
    ((number : Option ℕ) × IsEditGiven (before_file_given options) number)
    × ((style : DiffStyle) × IsStyle options style)
Needs ByForget options =
    (n : ℕ) × (digits : Text) × (first_of (codes "n") options ≡ Some digits) × IsNumber 32 digits n

needs-edit : (tool : Tool) (options : List Row) (edit : EditRequest) → AsksEdit tool options edit → Needs tool options
needs-edit tool options (Insert record_type fresh auto) is = rw is.0 (Insert record_type fresh auto, (refl, is.1, is.2, is.3))
needs-edit tool options (Replace pick fresh) is = rw is.0 (Replace pick fresh, (refl, is.1, is.2, is.3))
needs-edit tool options (Delete pick) is = rw is.0 (Delete pick, (refl, is.1, is.2))
needs-edit tool options (CommentOut pick) is = rw is.0 (CommentOut pick, (refl, is.1, is.2))
needs-edit tool options (Set pick list action) is = rw is.0 (Set pick list action, (refl, is.1, is.2, is.3))
needs-edit tool options AutoFill is = rw is.0 (inr (is.1, is.2))

-- a new record is put in of a type, or instead of records that are picked
not_fix : RecIns ≡ RecFix → ⊥
not_fix is = cc

pub insertion-picks : (options : List Row) (edit : EditRequest) → AsksEdit RecIns options edit → (pick : Pick) × IsPick options pick
insertion-picks options (Insert record_type fresh auto) is = (record { kind = record_type; by = All }, is.1)
insertion-picks options (Replace pick fresh) is = (pick, is.2)
insertion-picks options (Delete pick) is = (pick, is.2)
insertion-picks options (CommentOut pick) is = (pick, is.2)
insertion-picks options (Set pick list action) is = (pick, is.1)
insertion-picks options AutoFill is = absurd (not_fix is.0)

-- a look has what its tool needs
look-needs : (tool : Tool) (options : List Row) (look : Look) → AsksLook tool options look → Needs tool options
look-needs tool options (Show pick form collapse) is = rw is.0 ((pick, is.1), (form, is.2))
look-needs tool options (Info record_type form) is = rw is.0 (form, is.2)
look-needs tool options Check is = rw is.0 (inl (is.1, is.2))
look-needs tool options History is = rw is.0 (inl is.1)
look-needs tool options (Log style) is = rw is.0 (inr (style, is.2))
look-needs tool options (Diff number style) is = rw is.0 ((number, is.1), (style, is.2))

-- so has a change
change-needs : (tool : Tool) (options : List Row) (change : ChangeOrder) → AsksChange tool options change → Needs tool options
change-needs tool options (BatchAt path force) is = rw is.0 (string_bytes path, is.1)
change-needs tool options (AdoptAt old) is = rw is.0 tt
change-needs tool options (WriteAt new over force) is = rw is.0 ((string_bytes new, is.1), is.3)
change-needs tool options (Through Backward number) is = rw is.0 (Some number, is.1)
change-needs tool options (Through Forward number) is = rw is.0 (Some number, is.1)
change-needs tool options (Whole (Edit edit force)) is = needs-edit tool options edit is.0
change-needs tool options (Whole (Batch text force)) is = absurd is
change-needs tool options (Whole (Adopt old)) is = absurd is
change-needs tool options (Whole (Write text over force)) is = absurd is
change-needs tool options (Whole (Undo number)) is = rw is.0 (None, is.1)
change-needs tool options (Whole (Redo number)) is = rw is.0 (None, is.1)
change-needs tool options (Whole (Revert number force)) is = rw is.0 (number, is.1)
change-needs tool options (Whole (Forget newest dropped)) is = rw is.0 (newest, is.1.0, is.1.1, is.1.2)

-- and any order
pub order-needs : (tool : Tool) (options : List Row) (order : Order) → Orders tool options order → Needs tool options
order-needs tool options (Looks look) is = look-needs tool options look is
order-needs tool options (Changes change) is = change-needs tool options change is
order-needs tool options (Previews change style) is = absurd is

-- what is asked for is ordered, or its preview is
pub asked-orders : (tool : Tool) (options : List Row) (order : Order) → OrdersOrPreviews tool options order
    → (own : Order) × Orders tool options own
asked-orders tool options (Looks look) is = (Looks look, is)
asked-orders tool options (Changes change) is = (Changes change, is.1)
asked-orders tool options (Previews change style) is = (Changes change, is.2)

-- ---- looks and changes

-- whether a tool looks
abbrev is_look : Tool → List Row → Bool
is_look RecSel options = true
is_look RecInf options = true
is_look RecFix options = not (has_flag (codes "auto") options)
is_look ByHistory options = true
is_look ByShow options = true
is_look _ options = false

look-looks : (tool : Tool) (options : List Row) (look : Look) → AsksLook tool options look → is_look tool options ≡ true
look-looks tool options (Show pick form collapse) is = rw is.0 refl
look-looks tool options (Info record_type form) is = rw is.0 refl
look-looks tool options Check is = rw is.0 (ap not is.1)
look-looks tool options History is = rw is.0 refl
look-looks tool options (Log style) is = rw is.0 refl
look-looks tool options (Diff number style) is = rw is.0 refl

edit-changes : (tool : Tool) (options : List Row) (edit : EditRequest) → AsksEdit tool options edit → is_look tool options ≡ false
edit-changes tool options (Insert record_type fresh auto) is = rw is.0 refl
edit-changes tool options (Replace pick fresh) is = rw is.0 refl
edit-changes tool options (Delete pick) is = rw is.0 refl
edit-changes tool options (CommentOut pick) is = rw is.0 refl
edit-changes tool options (Set pick list action) is = rw is.0 refl
edit-changes tool options AutoFill is = rw is.0 (ap not is.1)

change-changes : (tool : Tool) (options : List Row) (change : ChangeOrder) → AsksChange tool options change → is_look tool options ≡ false
change-changes tool options (BatchAt path force) is = rw is.0 refl
change-changes tool options (AdoptAt old) is = rw is.0 refl
change-changes tool options (WriteAt new over force) is = rw is.0 refl
change-changes tool options (Through Backward number) is = rw is.0 refl
change-changes tool options (Through Forward number) is = rw is.0 refl
change-changes tool options (Whole (Edit edit force)) is = edit-changes tool options edit is.0
change-changes tool options (Whole (Batch text force)) is = absurd is
change-changes tool options (Whole (Adopt old)) is = absurd is
change-changes tool options (Whole (Write text over force)) is = absurd is
change-changes tool options (Whole (Undo number)) is = rw is.0 refl
change-changes tool options (Whole (Redo number)) is = rw is.0 refl
change-changes tool options (Whole (Revert number force)) is = rw is.0 refl
change-changes tool options (Whole (Forget newest dropped)) is = rw is.0 refl

no_flag : (b : Bool) → b ≡ false → b ≡ true → ⊥
no_flag b isnt is = cc

-- a dry run of a change needs how its diff is printed
pub preview-needs : (tool : Tool) (options : List Row) (change : ChangeOrder) → AsksChange tool options change
    → has_flag (codes "dry-run") options ≡ true → (order : Order) → OrdersOrPreviews tool options order
    → (style : DiffStyle) × IsStyle options style
preview-needs tool options change asks dry (Looks look) is =
    absurd (no_flag _ (change-changes tool options change asks) (look-looks tool options look is))
preview-needs tool options change asks dry (Changes other) is = absurd (no_flag _ is.0 dry)
preview-needs tool options change asks dry (Previews other style) is = (style, is.1)

-- ---- the journal

-- whether a tool prints of the file alone
abbrev is_alone : Tool → List Row → Bool
is_alone RecSel options = true
is_alone RecInf options = true
is_alone RecFix options = not (has_flag (codes "auto") options)
is_alone _ options = false

-- the journal of an order that prints of the file alone, and of another
abbrev JournalBy : Bool → Option Text → Option Text → JournalPath → Type 0
JournalBy true file given journal = HasNoJournal file given journal
JournalBy false file given journal = IsEditJournal file given journal

abbrev pub prints : Order → Bool
prints (Looks (Show pick form collapse)) = true
prints (Looks (Info record_type form)) = true
prints (Looks Check) = true
prints _ = false

module _ (file given : Option Text) (journal : JournalPath) where
  journal-by : (order : Order) → IsJournal order file given journal → JournalBy (prints order) file given journal
  journal-by (Looks (Show pick form collapse)) is = is
  journal-by (Looks (Info record_type form)) is = is
  journal-by (Looks Check) is = is
  journal-by (Looks History) is = is
  journal-by (Looks (Log style)) is = is
  journal-by (Looks (Diff number style)) is = is
  journal-by (Changes change) is = is
  journal-by (Previews change style) is = is

  journal-from : (order : Order) → JournalBy (prints order) file given journal → IsJournal order file given journal
  journal-from (Looks (Show pick form collapse)) is = is
  journal-from (Looks (Info record_type form)) is = is
  journal-from (Looks Check) is = is
  journal-from (Looks History) is = is
  journal-from (Looks (Log style)) is = is
  journal-from (Looks (Diff number style)) is = is
  journal-from (Changes change) is = is
  journal-from (Previews change style) is = is

-- what prints of the file alone is a look
alone-looks : (tool : Tool) (options : List Row) → is_look tool options ≡ false → is_alone tool options ≡ false
alone-looks RecSel options is = is
alone-looks RecInf options is = is
alone-looks RecFix options is = is
alone-looks RecIns options is = refl
alone-looks RecDel options is = refl
alone-looks RecSet options is = refl
alone-looks ByBatch options is = refl
alone-looks ByUndo options is = refl
alone-looks ByRedo options is = refl
alone-looks ByRevert options is = refl
alone-looks ByAdopt options is = refl
alone-looks ByWrite options is = refl
alone-looks ByHistory options is = refl
alone-looks ByShow options is = refl
alone-looks ByForget options is = refl

order-alone : (tool : Tool) (options : List Row) (order : Order) → OrdersOrPreviews tool options order → is_alone tool options ≡ prints order
order-alone tool options (Looks (Show pick form collapse)) is = rw is.0 refl
order-alone tool options (Looks (Info record_type form)) is = rw is.0 refl
order-alone tool options (Looks Check) is = rw is.0 (ap not is.1)
order-alone tool options (Looks History) is = rw is.0 refl
order-alone tool options (Looks (Log style)) is = rw is.0 refl
order-alone tool options (Looks (Diff number style)) is = rw is.0 refl
order-alone tool options (Changes change) is = alone-looks tool options (change-changes tool options change is.1)
order-alone tool options (Previews change style) is = alone-looks tool options (change-changes tool options change is.2)

-- two orders that the same words ask for have the same journal
pub same-journal : (tool : Tool) (options : List Row) (one other : Order) → OrdersOrPreviews tool options one
    → OrdersOrPreviews tool options other → (file given : Option Text) (journal : JournalPath) → IsJournal other file given journal
    → IsJournal one file given journal
same-journal tool options one other is too file given journal has =
    journal-from file given journal one
    (subst (λ alone. JournalBy alone file given journal) (sym (order-alone tool options other too) ∙ order-alone tool options one is)
    (journal-by file given journal other has))

-- ---- paths that are apart

apart-by : (alone : Bool) (file given : Text) (journal : JournalPath) → JournalBy alone (Some file) (Some given) journal → AreApart file given
apart-by true file given journal is = is.1
apart-by false file given journal is =
    subst (λ path. AreApart path given) (sym (ap (λ x. unwrap_or x file) is.file_given)) is.apart

-- where both paths are given they are apart, whatever is ordered
pub apart-given : (order : Order) (file given : Text) (journal : JournalPath) → IsJournal order (Some file) (Some given) journal → AreApart file given
apart-given order file given journal is =
    apart-by (prints order) file given journal (journal-by (Some file) (Some given) journal order is)
