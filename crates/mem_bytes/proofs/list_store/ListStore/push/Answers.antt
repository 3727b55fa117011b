use Rattle.std.proofs.Common.{◌++◌, [], ◌∷◌, Some, refl, ap, ◌∙◌, rules}
use Rattle.mem_bytes.proofs.Chunked.{grown_in, grown_new}
use Rattle.mem_bytes.proofs.list_store.ListStore.push.Goals as goal

pub invariant_of-self-in_default : goal.invariant_of-self-in_default
invariant_of-self-in_default c = rw c.in_ok-push_chunk.ensures (grown_new _ _ _ _ c.self.invariant (search rules) refl).holds

pub returns-in_default : goal.returns-in_default
returns-in_default c =
    rw c.in_ok-push_chunk.ensures ((grown_new _ _ _ _ c.self.invariant (search rules) refl).same ∙ ap (λ m. m ++ Some c.args.slot ∷ []) c.self.view_is)

pub invariant_of-self-2 : goal.invariant_of-self-2
invariant_of-self-2 c =
    (grown_in _ _ c.in-Some-place.chunk _ c.in-Some.place.now (Some c.args.slot) c.self.invariant (search rules) (search rules) c.in-Some-place.is c.in_ok-push.ensures).holds

pub returns : goal.returns
returns c =
    (grown_in _ _ c.in-Some-place.chunk _ c.in-Some.place.now (Some c.args.slot) c.self.invariant (search rules) (search rules) c.in-Some-place.is c.in_ok-push.ensures).same
    ∙ ap (λ m. m ++ Some c.args.slot ∷ []) c.self.view_is
