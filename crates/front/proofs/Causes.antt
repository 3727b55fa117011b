-- The first rule that the units of a job break is one.
use Rattle.std.proofs.Common.{◌≡◌, inl, inr, List, sym, ap, ◌∙◌}
use Rattle.cr_base.specs.declared.refusal.Refusal.{Refusal}
use Rattle.shelf.specs.declared.file.File.{File}
use Rattle.cx_units.proofs.Units.{unbroken_breaks_none, one_is_first as one_of_bytes}
use Rattle.front.specs.Refusals.{BreaksN1, BreaksProfile, bytes_of}
use Rattle.front.specs.Laws.{OneIsFirst, TranslatedBreakNone}

-- N1 stands beside no rule of the profile
n1_alone : {P : Type 0} (units : List File) (one other : Refusal) → BreaksN1 units one → BreaksProfile units other → P
n1_alone units one other n1 profile = absurd (unbroken_breaks_none (bytes_of units) n1.unbroken.0 other n1.unbroken.1 profile)

pub translated_break_none : TranslatedBreakNone
translated_break_none units program refusal core broken = elim broken [
  | inl profile ↦ unbroken_breaks_none (bytes_of units) core.unbroken.0 refusal core.unbroken.1 profile
  | inr n1 ↦ n1.unbuilt program core.built
]

pub one_is_first : OneIsFirst
one_is_first units one other first second = elim first [
  | inl profile ↦ elim second [ inl again ↦ one_of_bytes (bytes_of units) one other profile again | inr n1 ↦ n1_alone units other one n1 profile ]
  | inr n1 ↦ elim second [
    | inl profile ↦ n1_alone units one other n1 profile
    | inr again ↦
        let same : one ≡ other = n1.refused ∙ sym again.refused in
        (ap (λ (r : Refusal). r.rule) same, ap (λ (r : Refusal). r.unit) same)
  ]
]
