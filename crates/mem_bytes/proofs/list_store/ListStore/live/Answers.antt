use Rattle.std.proofs.Common.{◌≡◌, Some, None, MatchResult, refl, rules, sym, subst}
use Rattle.mem_bytes.specs.declared.fault.Fault.TheVariants.{Dead}
use Rattle.mem_bytes.proofs.Stored.{past, gone, lives}
use Rattle.mem_bytes.proofs.list_store.ListStore.live.Goals as goal

pub returns-in_default : goal.returns-in_default
returns-in_default c = (past _ _ _ c.self.view_is c.self.invariant.packed (search rules), refl)

pub returns-in_default-place : goal.returns-in_default-place
returns-in_default-place c =
    (gone _ _ _ c.in-Some.place.now c.self.view_is c.self.invariant.packed (search rules) (search rules) c.in_default-place.is, refl)

pub returns : goal.returns
returns c =
    subst (λ slot. MatchResult c.live.result (λ found. slot ≡ Some found.now) (λ fault. (slot ≡ None) × (fault ≡ Dead)))
    (sym (lives _ _ _ c.in-Some.place.now c.in-Some-place.chunk c.self.view_is c.self.invariant.packed (search rules) (search rules) c.in-Some-place.is)) c.live.ensures
