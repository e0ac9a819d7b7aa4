-- Refusals that are handed on, and what clap's own are.
use Rattle.std.proofs.Common.{◌≡◌, ◌≢◌, ◌∙◌, List, [], sym, ap, refl, subst, inl, inr}
use Rattle.std.specs.Prelude.{Option, Some, None, option_map, Result, Ok, Err, IsErrAnd, find}
use Rattle.std.specs.List.{AllByRecursion}
use Rattle.std.specs.Option.{option_map_or}
use Rattle.std.specs.Str.{bytes_eq}
use Rattle.clap.specs.Words.{HasKind, IsAmong, Row, Text, fault_of, kind_of, subcommand_of}
use Rattle.clap.specs.declared.error.Error.{Error}
use Rattle.rec_text.specs.declared.fault.Fault.{Fault}
use Rattle.rec_text.specs.declared.fault.Fault.TheVariants.{BadUsage}
use Rattle.rec_command.specs.declared.args.CommandLine.{CommandLine}
use Rattle.rec_command.specs.declared.args.refusal.Refusal.{Refusal}
use Rattle.rec_command.specs.declared.args.refusal.Refusal.TheVariants.{OutOfMemory, Usage, Rule}
use Rattle.rec_command.specs.declared.tools.Tool.{Tool}
use Rattle.rec_command.specs.declared.tools.Tool.TheVariants.{RecSel, RecInf, RecFix, RecIns, RecDel, RecSet}
use Rattle.rec_command.specs.declared.tools.Tool.TheVariants.{Batch, Undo, Redo, Revert, Adopt, Write, History, Show, Forget}
use Rattle.rec_command.specs.Refusals.{IsOrRefuses, IsParsed, IsRefusalOf, refusal_fault}
use Rattle.rec_command.specs.Usage.{name_of, tools, usage}
use Rattle.rec_command.specs.Words.{IsAsked, IsAskedBy}

-- ---- refusals that are handed on

refuses-too : {X Y : Type 0} (P : X → Type 0) (Q : Y → Type 0) (refusal : Refusal) → IsOrRefuses P (Err refusal)
    → ((y : Y) → Q y → (x : X) × P x) → IsOrRefuses Q (Err refusal)
refuses-too P Q OutOfMemory refuses needs = tt
refuses-too P Q (Usage error) refuses needs = refuses
refuses-too P Q (Rule line) refuses needs = λ y is. refuses (needs y is).0 (needs y is).1

-- a refusal that a caller hands on, whose answers need one of the callee
pub refuses-passed : {X Y : Type 0} (P : X → Type 0) (Q : Y → Type 0) (refusal : Refusal) (result : Result Y Refusal)
    → IsErrAnd result (λ own. own ≡ refusal) → IsOrRefuses P (Err refusal) → ((y : Y) → Q y → (x : X) × P x)
    → IsOrRefuses Q result
refuses-passed P Q refusal (Ok y) is refuses needs = absurd is
refuses-passed P Q refusal (Err own) is refuses needs =
    subst (λ refused. IsOrRefuses Q (Err refused)) (sym is) (refuses-too P Q refusal refuses needs)

-- memory may always run out
pub refuses-memory : {Y : Type 0} (Q : Y → Type 0) (result : Result Y Refusal)
    → IsErrAnd result (λ own. own ≡ OutOfMemory) → IsOrRefuses Q result
refuses-memory Q (Ok y) is = absurd is
refuses-memory Q (Err own) is = subst (λ refused. IsOrRefuses Q (Err refused)) (sym is) tt

pub parsed-memory : (words : List Text) (result : Result CommandLine Refusal)
    → IsErrAnd result (λ own. own ≡ OutOfMemory) → IsParsed words result
parsed-memory words (Ok line) is = absurd is
parsed-memory words (Err own) is = subst (λ refused. IsParsed words (Err refused)) (sym is) tt

-- ---- clap's refusals

pub parsed-usage : (words : List Text) (error : Error) (result : Result CommandLine Refusal)
    → IsErrAnd result (IsRefusalOf error) → HasKind (fault_of usage words) error → IsParsed words result
parsed-usage words error (Ok line) is has = absurd is
parsed-usage words error (Err OutOfMemory) is has = tt
parsed-usage words error (Err (Usage own)) is (inl memory) = absurd (is.1 memory)
parsed-usage words error (Err (Usage own)) is (inr among) =
    subst (λ kept. IsAmong (kind_of kept) (fault_of usage words)) (sym is.0) among
parsed-usage words error (Err (Rule line)) is has = absurd is

-- ---- the tools by their names

abbrev tool_called : Text → Option Tool
tool_called name = find (λ tool. bytes_eq (name_of tool) name) tools

tool_called-name_of : (tool : Tool) → tool_called (name_of tool) ≡ Some tool
tool_called-name_of RecSel = refl
tool_called-name_of RecInf = refl
tool_called-name_of RecFix = refl
tool_called-name_of RecIns = refl
tool_called-name_of RecDel = refl
tool_called-name_of RecSet = refl
tool_called-name_of Batch = refl
tool_called-name_of Undo = refl
tool_called-name_of Redo = refl
tool_called-name_of Revert = refl
tool_called-name_of Adopt = refl
tool_called-name_of Write = refl
tool_called-name_of History = refl
tool_called-name_of Show = refl
tool_called-name_of Forget = refl

-- no two tools have one name
pub name_of-inj : (one other : Tool) → name_of one ≡ name_of other → one ≡ other
name_of-inj one other same =
    ap (λ (tool : Option Tool). option_map_or (λ found. found) tool one)
    (sym (tool_called-name_of one) ∙ ap tool_called same ∙ tool_called-name_of other)

-- a name that none in the list has is no tool's
pub no_tool_named : (name : Text) → AllByRecursion (λ tool. name_of tool ≢ name) tools → (tool : Tool)
    → name_of tool ≢ name
no_tool_named name all RecSel = all.0
no_tool_named name all RecInf = all.1.0
no_tool_named name all RecFix = all.1.1.0
no_tool_named name all RecIns = all.1.1.1.0
no_tool_named name all RecDel = all.1.1.1.1.0
no_tool_named name all RecSet = all.1.1.1.1.1.0
no_tool_named name all Batch = all.1.1.1.1.1.1.0
no_tool_named name all Undo = all.1.1.1.1.1.1.1.0
no_tool_named name all Redo = all.1.1.1.1.1.1.1.1.0
no_tool_named name all Revert = all.1.1.1.1.1.1.1.1.1.0
no_tool_named name all Adopt = all.1.1.1.1.1.1.1.1.1.1.0
no_tool_named name all Write = all.1.1.1.1.1.1.1.1.1.1.1.0
no_tool_named name all History = all.1.1.1.1.1.1.1.1.1.1.1.1.0
no_tool_named name all Show = all.1.1.1.1.1.1.1.1.1.1.1.1.1.0
no_tool_named name all Forget = all.1.1.1.1.1.1.1.1.1.1.1.1.1.1.0

-- ---- the line

pub parsed-line : (words : List Text) (tool : Tool) (options : List Row) → fault_of usage words ≡ []
    → subcommand_of usage words ≡ Some (name_of tool, options) → (result : Result CommandLine Refusal)
    → IsOrRefuses (IsAskedBy tool options) result → IsParsed words result
parsed-line words tool options taken named (Ok line) is =
    record { taken = taken; tool = tool; options = options; named = named; asks = is }
parsed-line words tool options taken named (Err OutOfMemory) is = tt
parsed-line words tool options taken named (Err (Usage error)) is = absurd is
parsed-line words tool options taken named (Err (Rule line)) none = (
  taken,
  λ line asked.
      let found : Some (name_of tool, options) ≡ Some (name_of asked.tool, asked.options) = sym named ∙ asked.named in
      let tool_is : tool ≡ asked.tool = name_of-inj tool asked.tool
      (ap (λ (o : Option (Text × List Row)). option_map_or (λ p. p.0) o []) found) in
      let options_are : options ≡ asked.options =
      ap (λ (o : Option (Text × List Row)). option_map_or (λ p. p.1) o []) found in
      none line (subst (λ t. IsAskedBy t options line) (sym tool_is)
      (subst (λ o. IsAskedBy asked.tool o line) (sym options_are) asked.asks)),
)

-- words that enter no tool ask for nothing
no_subcommand : (o : Option (Text × List Row)) (named : Text × List Row) → None ≡ option_map (λ p. p.1) o
    → o ≡ Some named → ⊥
no_subcommand None named none some = cc
no_subcommand (Some p) named none some = cc

pub parsed-no_subcommand : (words : List Text) (o : Option (Text × List Row)) → None ≡ option_map (λ p. p.1) o
    → o ≡ subcommand_of usage words → (line : CommandLine) → IsAsked words line → ⊥
parsed-no_subcommand words o none entered line asked = no_subcommand o _ none (entered ∙ asked.named)

-- nor do words whose tool there isn't
pub parsed-no_tool : (words : List Text) (name : Text) (rows : List Row) → subcommand_of usage words ≡ Some (name, rows)
    → ((tool : Tool) → name_of tool ≢ name) → (line : CommandLine) → IsAsked words line → ⊥
parsed-no_tool words name rows named none line asked =
    none asked.tool (ap (λ (o : Option (Text × List Row)). option_map_or (λ p. p.0) o []) (sym asked.named ∙ named))

-- what is refused by clap or by a rule asks for nothing
pub refused-fault : (words : List Text) (refusal : Refusal) → IsParsed words (Err refusal)
    → refusal_fault refusal ≡ BadUsage → (line : CommandLine) → IsAsked words line → ⊥
refused-fault words OutOfMemory parsed is line asked = cc
refused-fault words (Usage error) parsed is line asked =
    subst (λ kinds. IsAmong (kind_of error) kinds) asked.taken parsed
refused-fault words (Rule rule) parsed is line asked = parsed.1 line asked

pub err-is : (one other : Fault) → ◌≡◌ {A = Result CommandLine Fault} (Err one) (Err other) → one ≡ other
err-is one other is = cc
