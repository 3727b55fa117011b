use Rattle.lift_forms_laws.proofs.BothMemories.{loads, stores}
use Rattle.lift_forms_laws.proofs.laws.bit_fields_in_both.Goals as goal

pub returns : goal.returns
returns c = record {
  loads = λ images memory frame world at to spot marks kind one base target in_bytes stands place is gives e.
      loads images frame world at to spot marks kind in_bytes place is memory one base target stands gives e;
  stores = λ images held frame world at to spot marks kind number one base stored target ty in_bytes stands place is is_number base_gives stored_gives e.
      stores images frame world at to spot marks kind in_bytes place is held number one base stored target ty stands is_number base_gives stored_gives e;
}
