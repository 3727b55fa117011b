-- Worked examples of what a run is given: answers, allocations and objects, on open terms and under a trail.
use Rattle.std.proofs.Common.{◌≡◌, ℕ, ℤ, pos, negsuc, true, false, List, [], ◌∷◌, Some, None, Ok, Err, refl, codes}
use Rattle.ext_calls.specs.declared.call.Call.{Call}
use Rattle.ext_calls.specs.declared.call.Made.{Made}
use Rattle.mem_bytes.specs.declared.cell.Cell.TheVariants.{Bits}
use Rattle.mem_bytes.specs.declared.value.Ptr.{Ptr}
use Rattle.mem_bytes.specs.declared.value.Value.{Value}
use Rattle.mem_bytes.specs.declared.value.Value.TheVariants.{Null, Object}
use Rattle.mem_bytes.specs.Memory.{Block, byte_cell}
use Rattle.cr_world.specs.Held.{Held}
use Rattle.cr_world.specs.World.{World, Got, Terms, open_ended, trail_of, full, asks, astray, first_world, events_of, answered, granted, object_begun}

abbrev block : Block
block = record { align = 1; cells = byte_cell 1 ∷ byte_cell 2 ∷ [] }

abbrev held : Held
held = record { blocks = Some block ∷ []; heap = [] }

abbrev asked : Call
asked = record { name = codes "getchar"; args = [] }

abbrev made_with : ℤ → Made
made_with answer = record { call = asked; answer = answer }

-- a world that called once, with these answers left, on these terms
abbrev world : Terms → List ℤ → World
world terms answers = record { held = held; made = made_with (pos 9) ∷ []; answers = answers; terms = terms }

-- a store of six bytes and two blocks, of which two and one are used
abbrev small : Terms
small = trail_of (Some (record { bytes = 6; blocks = 2 }))

abbrev unlimited : Terms
unlimited = trail_of None

-- ---- before the program begins

nothing_yet : first_world open_ended (record { answers = pos 5 ∷ [] }) ≡ record { held = record { blocks = []; heap = [] }; made = []; answers = pos 5 ∷ []; terms = open_ended }
nothing_yet = refl

-- ---- answers

abbrev after_call : Terms → ℤ → List ℤ → Got ℤ
after_call terms answer left = record {
  value = answer;
  world = record { held = held; made = made_with (pos 9) ∷ made_with answer ∷ []; answers = left; terms = terms };
}

first_answer : answered {F = ℕ} asked (world open_ended (pos 5 ∷ pos 6 ∷ [])) ≡ Ok (after_call open_ended (pos 5) (pos 6 ∷ []))
first_answer = refl

past_the_answers : answered {F = ℕ} asked (world open_ended []) ≡ Ok (after_call open_ended (pos 0) [])
past_the_answers = refl

answer_in_trail : answered {F = ℕ} asked (world small (negsuc 0 ∷ [])) ≡ Ok (after_call small (negsuc 0) [])
answer_in_trail = refl

past_the_trail : answered {F = ℕ} asked (world small []) ≡ Err (asks asked)
past_the_trail = refl

events_in_order : events_of (record (world open_ended []) { made = record { call = record { name = codes "a"; args = [] }; answer = pos 1 } ∷ record { call = record { name = codes "b"; args = [] }; answer = pos 2 } ∷ [] }) ≡ record { name = codes "a"; args = [] } ∷ record { name = codes "b"; args = [] } ∷ []
events_in_order = refl

-- ---- allocations

abbrev after_null : Terms → List ℤ → Got Value
after_null terms left = record { value = Null; world = world terms left }

abbrev after_block : Terms → List ℤ → Got Value
after_block terms left = record {
  value = Object (record { block = 1; offset = 0 });
  world = record {
    held = record { blocks = Some block ∷ Some (record { align = 16; cells = Bits 0 0 ∷ Bits 0 0 ∷ Bits 0 0 ∷ [] }) ∷ []; heap = 1 ∷ [] };
    made = made_with (pos 9) ∷ [];
    answers = left;
    terms = terms;
  };
}

answer_is_null : granted {F = ℕ} false 3 (world open_ended (pos 0 ∷ pos 7 ∷ [])) ≡ Ok (after_null open_ended (pos 7 ∷ []))
answer_is_null = refl

answer_is_one : granted {F = ℕ} false 3 (world open_ended (pos 1 ∷ [])) ≡ Ok (after_block open_ended [])
answer_is_one = refl

answer_is_other : granted {F = ℕ} false 3 (world open_ended (negsuc 0 ∷ [])) ≡ Ok (after_block open_ended [])
answer_is_other = refl

no_answer_left : granted {F = ℕ} false 3 (world open_ended []) ≡ Ok (after_block open_ended [])
no_answer_left = refl

store_gives : granted {F = ℕ} false 3 (world small (pos 1 ∷ [])) ≡ Ok (after_block small [])
store_gives = refl

store_refuses : granted {F = ℕ} false 5 (world small (pos 0 ∷ [])) ≡ Ok (after_null small [])
store_refuses = refl

given_though_refused : granted {F = ℕ} false 5 (world small (pos 1 ∷ [])) ≡ Err astray
given_though_refused = refl

null_though_room : granted {F = ℕ} false 3 (world small (pos 0 ∷ [])) ≡ Err astray
null_though_room = refl

no_answer_of_a_store : granted {F = ℕ} false 3 (world small (pos 2 ∷ [])) ≡ Err astray
no_answer_of_a_store = refl

trail_used_up : granted {F = ℕ} false 3 (world small []) ≡ Err astray
trail_used_up = refl

without_limit : granted {F = ℕ} false 3 (world unlimited (pos 1 ∷ [])) ≡ Ok (after_block unlimited [])
without_limit = refl

null_without_limit : granted {F = ℕ} false 3 (world unlimited (pos 0 ∷ [])) ≡ Err astray
null_without_limit = refl

-- ---- objects

abbrev after_object : Terms → Block → Got Ptr
after_object terms new = record {
  value = record { block = 1; offset = 0 };
  world = record { held = record { blocks = Some block ∷ Some new ∷ []; heap = [] }; made = made_with (pos 9) ∷ []; answers = []; terms = terms };
}

unset_object : object_begun {F = ℕ} false 2 8 (world open_ended []) ≡ Ok (after_object open_ended (record { align = 8; cells = Bits 0 0 ∷ Bits 0 0 ∷ [] }))
unset_object = refl

zero_object : object_begun {F = ℕ} true 2 8 (world open_ended []) ≡ Ok (after_object open_ended (record { align = 8; cells = byte_cell 0 ∷ byte_cell 0 ∷ [] }))
zero_object = refl

object_fits : object_begun {F = ℕ} true 4 4 (world small []) ≡ Ok (after_object small (record { align = 4; cells = byte_cell 0 ∷ byte_cell 0 ∷ byte_cell 0 ∷ byte_cell 0 ∷ [] }))
object_fits = refl

object_refused : object_begun {F = ℕ} true 5 4 (world small []) ≡ Err (full 5 4)
object_refused = refl

too_many_objects : object_begun {F = ℕ} true 0 1 (world (trail_of (Some (record { bytes = 6; blocks = 1 }))) []) ≡ Err (full 0 4)
too_many_objects = refl
