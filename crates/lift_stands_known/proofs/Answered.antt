-- Answers to allocations and to other calls.
use Rattle.std.proofs.Common.{◌≡◌, ℕ, ℤ, pos, Bool, true, false, List, [], ◌∷◌, ◌++◌, length, Result, Ok, refl, ap, ◌∙◌, subst}
use Rattle.cr_world.specs.Held.{next_place}
use Rattle.cr_world.specs.Known.{allocated}
use Rattle.cr_world.specs.World.{World, open_ended, Stop, Got, is_given, after_answer, answer_from, answer_at_end, granted_on, granted, answered}
use Rattle.ext_calls.specs.declared.call.Call.{Call}
use Rattle.ext_calls.specs.declared.call.Made.{Made}
use Rattle.mem_bytes.specs.declared.value.Value.{Value}
use Rattle.lift_stands.specs.Stands.{Images, with_image, ValueBelow}
use Rattle.lift_stands.specs.Worlds.{WorldsStand}
use Rattle.lift_stands.proofs.Kept.{nothing_keeps}
use Rattle.lift_stands_known.specs.Effects.{GrantedBelow, AnsweredAlike}
use Rattle.lift_stands_lives.specs.Rooms.{IsZeroEnough}
use Rattle.lift_stands_lives.proofs.Begun.{place_of_next}
use Rattle.lift_stands_lives.proofs.HeldLives.{held_allocated}
use Rattle.lift_stands_lives.proofs.Steps.{allocated_keeps}

one_result : (A : Type 0) (F : Type 0) (result : Result A (Stop F)) (one other : A) → result ≡ Ok one → result ≡ Ok other → one ≡ other
one_result A F result one other e f = cc

-- ---- allocations

-- what an allocation of a run on open terms gets, by the answers that are left
abbrev first_given : List ℤ → Bool
first_given [] = true
first_given (answer ∷ left) = is_given answer

abbrev left_of : List ℤ → List ℤ
left_of [] = []
left_of (answer ∷ left) = left

abbrev after_grant : Bool → Bool → ℕ → List ℤ → World → Got Value
after_grant given is_zero size left world = record {
  value = (allocated given is_zero size world.held).value;
  world = record world { held = (allocated given is_zero size world.held).held; answers = left };
}

by_answers : (F : Type 0) (is_zero : Bool) (size : ℕ) (world : World) (answers : List ℤ) → granted_on {F = F} open_ended answers is_zero size world ≡ Ok (after_grant (first_given answers) is_zero size (left_of answers) world)
by_answers F is_zero size world [] = refl
by_answers F is_zero size world (answer ∷ left) = refl

grants : (F : Type 0) (is_zero : Bool) (size : ℕ) (world : World) (answers : List ℤ) → world.terms ≡ open_ended → world.answers ≡ answers → granted {F = F} is_zero size world ≡ Ok (after_grant (first_given answers) is_zero size (left_of answers) world)
grants F is_zero size world answers terms_are left =
    ap (λ terms. granted_on {F = F} terms world.answers is_zero size world) terms_are
    ∙ ap (λ list. granted_on {F = F} open_ended list is_zero size world) left
    ∙ by_answers F is_zero size world answers

module _ (G : Type 0) (images : Images) (world other : World) (is_zero other_zero : Bool) (size : ℕ) (stands : WorldsStand images world other) (enough : IsZeroEnough images.in_bytes is_zero other_zero) where
  granted_by : (given : Bool) (left : List ℤ) (result : Result (Got Value) (Stop G)) → result ≡ Ok (after_grant given other_zero size left other) → GrantedBelow G images world other (after_grant given is_zero size left world) result
  granted_by false left result e = record {
    given = after_grant false other_zero size left other;
    is = e;
    later = images;
    below = ValueBelow.both_null;
    stands = record { held = stands.held; made = stands.made; answers = refl; terms = stands.terms; other_terms = stands.other_terms };
    keeps = λ base own p. nothing_keeps base own images world.held other.held stands.held.memories.mapped;
  }
  granted_by true left result e = record {
    given = after_grant true other_zero size left other;
    is = e;
    later = with_image (length other.held.blocks) images;
    below = ValueBelow.to_image (next_place world.held.blocks) (next_place other.held.blocks) (place_of_next images world (length other.held.blocks) stands.held.memories.mapped);
    stands = record {
      held = held_allocated images world.held other.held is_zero other_zero size stands.held enough;
      made = stands.made;
      answers = refl;
      terms = stands.terms;
      other_terms = stands.other_terms;
    };
    keeps = λ base own p. allocated_keeps base own images world.held other.held is_zero other_zero size stands.held.memories.mapped p;
  }

pub granted_below : (F G : Type 0) (images : Images) (world other : World) (is_zero other_zero : Bool) (size : ℕ) (got : Got Value) → WorldsStand images world other → IsZeroEnough images.in_bytes is_zero other_zero → granted {F = F} is_zero size world ≡ Ok got → GrantedBelow G images world other got (granted {F = G} other_zero size other)
granted_below F G images world other is_zero other_zero size got stands enough e =
    let given = first_given world.answers in
    let left = left_of world.answers in
    let same = one_result (Got Value) F (granted {F = F} is_zero size world) _ got (grants F is_zero size world world.answers stands.terms refl) e in
    subst (λ g. GrantedBelow G images world other g (granted {F = G} other_zero size other)) same
    (granted_by G images world other is_zero other_zero size stands enough given left (granted {F = G} other_zero size other) (grants G other_zero size other world.answers stands.other_terms stands.answers))

-- ---- other calls

abbrev first_answer : List ℤ → ℤ
first_answer [] = pos 0
first_answer (answer ∷ left) = answer

abbrev after_call : Call → List ℤ → World → Got ℤ
after_call call answers world =
    record { value = first_answer answers; world = after_answer call (first_answer answers) (left_of answers) world }

answers_by : (F : Type 0) (call : Call) (world : World) (answers : List ℤ) → world.terms ≡ open_ended → answer_from {F = F} answers call world ≡ Ok (after_call call answers world)
answers_by F call world [] terms_are = ap (λ terms. answer_at_end {F = F} terms call world) terms_are
answers_by F call world (answer ∷ left) terms_are = refl

answers_so : (F : Type 0) (call : Call) (world : World) (answers : List ℤ) → world.terms ≡ open_ended → world.answers ≡ answers → answered {F = F} call world ≡ Ok (after_call call answers world)
answers_so F call world answers terms_are left =
    ap (λ list. answer_from {F = F} list call world) left ∙ answers_by F call world answers terms_are

pub answered_alike : (F G : Type 0) (images : Images) (world other : World) (call : Call) (got : Got ℤ) → WorldsStand images world other → answered {F = F} call world ≡ Ok got → AnsweredAlike G images world other got (answered {F = G} call other)
answered_alike F G images world other call got stands e =
    let same = one_result (Got ℤ) F (answered {F = F} call world) _ got (answers_so F call world world.answers stands.terms refl) e in
    let more : Made = record { call = call; answer = first_answer world.answers } in
    subst (λ g. AnsweredAlike G images world other g (answered {F = G} call other)) same (record {
      given = after_call call world.answers other;
      is = answers_so G call other world.answers stands.other_terms stands.answers;
      same = refl;
      stands = record {
        held = stands.held;
        made = ap (λ list. list ++ more ∷ []) stands.made;
        answers = refl;
        terms = stands.terms;
        other_terms = stands.other_terms;
      };
      keeps = λ base own. nothing_keeps base own images world.held other.held stands.held.memories.mapped;
    })
