-- The head of a definition, and what is kept of it.
use Rattle.std.proofs.Common.{◌≡◌, refl, sym, ap, ◌∙◌, ℕ, true, List, Option, None, Some}
use Rattle.cr_base.specs.declared.refusal.Refusal.{Refusal}
use Rattle.cx_contents.specs.Contents as contents
use Rattle.cx_core.specs.declared.program.Linkage.{Linkage}
use Rattle.cx_core.specs.Trees.{CTy}
use Rattle.cx_decl_steps.specs.Kept.{kept_of}
use Rattle.cx_decl_steps.specs.Steps as steps
use Rattle.cx_entities.specs.Entities.{joined_type}
use Rattle.cx_rules.specs.declared.kinds.SpecsPlace.TheVariants.{Definition}
use Rattle.cx_rules.specs.Declare.{CDeclaring, declaring, linkage_of, with_head, clashes, is_typedef, head_number, own_params}
use Rattle.cx_rules.specs.Nodes.{CNode, head_node}
use Rattle.cx_rules.specs.Pieces.{Done}
use Rattle.cx_rules.specs.Readings.{Check, check_gives, check_chain, check_here, check_becomes, check_behind, check_by, check_look, refusal_at}
use Rattle.cx_rules.specs.Scope.{CScope, CMeant, ordinary}
use Rattle.cx_rules.specs.Shapes.{CSpecs, CStep, CShape}
use Rattle.cx_rules.specs.UnitWalk.{CHead, name_or_none}
use Rattle.cx_rules.specs.Walk as walk

pub head_is : (one : CDeclaring) (written : CTy) (list : List CStep) (old mid new : CScope)
    → mid ≡ contents.with_function one written old → new ≡ steps.body_begun list mid → new ≡ with_head one written list old
unfolding with_head
head_is one written list old mid new m n = n ∙ ap (steps.body_begun list) m

kept_by : {A B : Type 0} (after : CScope) (meaning : A) (f : A → B) (broken : Option Refusal) (scope : CScope)
    → check_behind (check_behind (check_by broken scope) (λ _. check_chain Done A (check_becomes after) (λ _. check_gives A meaning))) (λ one. check_gives B (f one))
    ≡ check_behind (check_by broken scope) (λ _. check_chain Done B (check_becomes after) (λ _. check_gives B (f meaning)))
unfolding check_chain check_becomes check_gives
kept_by after meaning f None scope = refl
kept_by after meaning f (Some refusal) scope = refl

kept_changed : {A B : Type 0} (scope : CScope) (line : ℕ) (node : CNode) (after : CScope) (meaning : A) (f : A → B) (at : CScope)
    → check_chain A B (walk.changed Check check_gives check_chain check_here check_becomes check_look scope line node after meaning) (λ one. check_gives B (f one)) at
    ≡ walk.changed Check check_gives check_chain check_here check_becomes check_look scope line node after (f meaning) at
unfolding check_chain check_look
kept_changed scope line node after meaning f at = kept_by after meaning f (refusal_at (record { scope = scope; line = line; node = node })) at

abbrev head_of_one : CScope → CDeclaring → List CStep → CTy → CHead
head_of_one scope one list written = record { before = scope; declaring = one; number = head_number scope one; written = written; params = own_params list }

kept_is : (specs : CSpecs) (line : ℕ) (shape : CShape) (written : CTy) (scope : CScope)
    → steps.head_kept specs line shape written scope
    ≡ steps.head_as (declaring scope Definition specs (name_or_none shape.name) line written true) shape.steps written scope scope
unfolding check_here check_look check_becomes check_chain check_gives
kept_is specs line shape written scope =
    kept_changed scope line
    (head_node (record { specs = specs; type = written; steps = shape.steps; clashes = clashes scope (name_or_none shape.name) (is_typedef specs) written (declaring scope Definition specs (name_or_none shape.name) line written true).linkage true }))
    (with_head (declaring scope Definition specs (name_or_none shape.name) line written true) written shape.steps scope)
    (head_of_one scope (declaring scope Definition specs (name_or_none shape.name) line written true) shape.steps written) kept_of scope

abbrev declared : CSpecs → ℕ → List ℕ → Linkage → CTy → CDeclaring
declared specs line name linkage type = record { where_stands = Definition; specs = specs; name = name; line = line; type = type; linkage = linkage; has_init = true }

pub head_by : (specs : CSpecs) (line : ℕ) (shape : CShape) (written : CTy) (scope : CScope) (name : List ℕ) (before : Option CMeant) (linkage : Linkage) (type : CTy)
    → name ≡ name_or_none shape.name → before ≡ ordinary name scope.declared → linkage ≡ linkage_of Definition specs written before → type ≡ joined_type linkage written before
    → steps.head_as (record { where_stands = Definition; specs = specs; name = name; line = line; type = type; linkage = linkage; has_init = true }) shape.steps written scope scope
    ≡ steps.head_kept specs line shape written scope
head_by specs line shape written scope name before linkage type n b l t =
    ap (λ one. steps.head_as one shape.steps written scope scope)
    (ap (λ joined. declared specs line name linkage joined) t
    ∙ ap (λ how. declared specs line name how (joined_type how written before)) l
    ∙ ap (λ found. declared specs line name (linkage_of Definition specs written found) (joined_type (linkage_of Definition specs written found) written found)) b
    ∙ ap (λ named. declaring scope Definition specs named line written true) n)
    ∙ sym (kept_is specs line shape written scope)
