use Rattle.std.proofs.Common.{◌∙◌, ℕ, List, ap, sym, is_some, bytes_eq}
use Rattle.std.specs.HashMap.{get_by}
use Rattle.build_flow_reached.proofs.Noted.{kept_old, put_new, not_held}
use Rattle.build_flow_reached.specs.Index.{held_in}
use Rattle.build_flow_reached.proofs.index.PlaceIndex.put.Goals as goal

pub returns-then-contains_key-clause-held : goal.returns-then-contains_key-clause-held
returns-then-contains_key-clause-held c = λ place same. kept_old c.args.self.now.numbers place c.args.self.now.count
    (sym (ap (λ (key : List ℕ). is_some (get_by (λ one. bytes_eq key one.items) c.args.self.now.numbers)) (c.as_slice.ensures.value ∙ same)) ∙ sym c.contains_key.ensures ∙ c.if-contains_key.true)

pub returns-clause-held : goal.returns-clause-held
returns-clause-held c = λ place same. put_new c.args.self.now.numbers c.insert.new.self place c.args.key c.args.self.now.count same c.in_ok-insert.ensures.updates
    (not_held (held_in c.args.self.now.numbers place)
    (sym (ap (λ (key : List ℕ). is_some (get_by (λ one. bytes_eq key one.items) c.args.self.now.numbers)) (c.as_slice.ensures.value ∙ same)) ∙ sym c.contains_key.ensures ∙ c.if-contains_key.false))
