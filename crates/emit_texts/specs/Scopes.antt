-- The labels that are around, and where control goes by them.
use Rattle.std.specs.Prelude.{ℕ, Bool, true, false, List, [], ◌∷◌, length, Some, if◌then◌else◌}
use Rattle.reloop.specs.Graphs.{is_in}
use Rattle.emit_rules.specs.Jumps as jumps
use Rattle.emit_rules.specs.Jumps.{Jumps, no_jumps, jumps_within}
use Rattle.emit_rules.specs.Nests.{Nest, nest_entries, nest_is_told}
use Rattle.emit_texts.specs.declared.scopes.Jump.{Jump}
use Rattle.emit_texts.specs.declared.scopes.Scope.{Scope}

abbrev pub jump_view : Jump → jumps.Jump
jump_view jump = record { is_told = jump.is_told; turns = jump.turns; label = jump.label }

-- jumps in the block of a label that ends in front of what is entered at these nodes
abbrev pub jumps_to : ℕ → List ℕ → Bool → Jumps → Jumps
jumps_to label entries is_told outer = record {
  jump = λ node. if is_in node entries then Some (record { is_told = is_told; turns = false; label = label }) else outer.jump node;
  next = λ node. is_in node entries;
}

abbrev pub scope_jumps : (is_loop : Bool) → ℕ → List ℕ → Bool → Jumps → Jumps
scope_jumps true label entries is_told outer = jumps_within label entries is_told outer
scope_jumps false label entries is_told outer = jumps_to label entries is_told outer

-- jumps where these labels are around, the innermost first: each has the number of those around it
abbrev pub jumps_of : List Scope → Jumps
jumps_of [] = no_jumps
jumps_of (scope ∷ outer) = scope_jumps scope.is_loop (length outer) scope.entries scope.is_told (jumps_of outer)

-- the labels around a nest in front of these
abbrev pub scopes_before : List Nest → List Scope → List Scope
scopes_before [] outer = outer
scopes_before (second ∷ others) outer = record { is_loop = false; is_told = nest_is_told second; entries = nest_entries second } ∷ outer
