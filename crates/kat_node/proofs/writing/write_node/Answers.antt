use Rattle.std.proofs.Common.{rules, ◌≡◌, ◌<◌, ◌++◌, List, ℕ, map, subst, sym}
use Rattle.std.specs.Prelude.{◌^◌}
use Rattle.kat_design.specs.declared.states.Part.{Part}
use Rattle.kat_replica.specs.Texts.{listed, part_text}
use Rattle.kat_json.specs.Texts.{IsJson}
use Rattle.kat_node.specs.StateData.{node_data}
use Rattle.kat_node.proofs.NodeTexts.{IsHeld, node_read}
use Rattle.kat_node.proofs.StateTexts.{written}
use Rattle.kat_node.proofs.writing.write_node.Goals as goal

pub returns-clause-text : goal.returns-clause-text
returns-clause-text c =
    let head = c.in_ok-text.text.items in
    let text = c.push_list.new.into.items in
    written c.args.node.now head text c.extend_from_slice.new.self.items c.requires c.in_ok-text.ensures
    (subst (λ (ps : List Part). text ≡ head ++ listed (map part_text ps)) c.as_slice.ensures c.in_ok-push_list.ensures) c.in_ok-extend_from_slice.ensures.items

pub returns-clause-read : goal.returns-clause-read
returns-clause-read c = λ d is.
    let node = c.args.node.now in
    let small : node.number < 2 ^ 64 = search rules in
    let fits : node.replica.clock < 2 ^ 64 = search rules in
    let held : IsHeld node = record { number = small; clock = fits } in
    let head = c.in_ok-text.text.items in
    let text = c.push_list.new.into.items in
    let same = written node head text c.extend_from_slice.new.self.items c.requires c.in_ok-text.ensures
    (subst (λ (ps : List Part). text ≡ head ++ listed (map part_text ps)) c.as_slice.ensures c.in_ok-push_list.ensures) c.in_ok-extend_from_slice.ensures.items in
    record { json = subst (λ (bytes : List ℕ). IsJson bytes (node_data node)) (sym same) (node_read node held c.requires); possible = is }
