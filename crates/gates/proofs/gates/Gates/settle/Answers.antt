use Rattle.std.proofs.Common.{ℕ, ◌+◌, ◌-◌, ◌/◌, ◌≤◌, ◌<◌, Bool, List, length, take, sym, refl, ap, ◌∙◌, arith}
use Rattle.gates.specs.Nets.{held_from, with_gates}
use Rattle.gates.specs.Passes.{passed, passed_held}
use Rattle.gates.proofs.Settling.{sources_are, good_settled, fault_settled}
use Rattle.gates.proofs.gates.Gates.settle.Goals as goal

pub returns-in-None : goal.returns-in-None
returns-in-None c =
    let first : ℕ = c.args.self.now.pins.count + length c.args.self.now.loads.now in
    let gs = c.args.self.now.gates.now in
    let nets = c.write_bits-2.new.self.values in
    let sources = sources_are c.args.nets.now.values c.write_bits.new.self.values nets c.args.self.now.pins.count c.from-pins.result (length c.args.self.now.loads.now) c.args.letter c.from.result c.args.state c.from-pins.ensures c.from.ensures c.write_bits.ensures c.write_bits-2.ensures in
    let room : first + length gs ≤ length nets = omega (arith, c.args.self.now.few_nets, c.write_bits-2.new.self.long) in
    ap (λ (ns : List Bool). take (first + length gs) ns) (c.evaluate.ensures ∙ ap (λ (n : ℕ). passed nets n gs) c.first_gate.ensures)
    ∙ good_settled nets first gs c.args.self.now.in_order room
    ∙ ap (λ (a : ℕ). with_gates a (held_from a 0 (take first nets)) gs) (sym (c.in-None.ensures.good.0 refl))
    ∙ ap (λ (ns : List Bool). with_gates c.args.member (held_from c.args.member 0 ns) gs) sources

pub returns-in-Some : goal.returns-in-Some
returns-in-Some c =
    let first : ℕ = c.args.self.now.pins.count + length c.args.self.now.loads.now in
    let gs = c.args.self.now.gates.now in
    let nets = c.write_bits-2.new.self.values in
    let sources = sources_are c.args.nets.now.values c.write_bits.new.self.values nets c.args.self.now.pins.count c.from-pins.result (length c.args.self.now.loads.now) c.args.letter c.from.result c.args.state c.from-pins.ensures c.from.ensures c.write_bits.ensures c.write_bits-2.ensures in
    let room : first + length gs ≤ length nets = omega (arith, c.args.self.now.few_nets, c.write_bits-2.new.self.long) in
    let faulty : 0 < c.args.member = grind (arith, c.in-Some.ensures.good.1) in
    ap (λ (ns : List Bool). take (first + length gs) ns) (c.evaluate_held.ensures ∙ ap (λ (n : ℕ). passed_held nets n gs c.in-Some.stuck.net c.in-Some.stuck.value) c.first_gate.ensures)
    ∙ ap (λ (n : ℕ). take (first + length gs) (passed_held nets first gs n c.in-Some.stuck.value)) c.in-Some.ensures.net
    ∙ ap (λ (v : Bool). take (first + length gs) (passed_held nets first gs ((c.args.member - 1) / 2) v)) c.in-Some.ensures.value
    ∙ fault_settled nets first gs c.args.self.now.in_order room c.args.member faulty c.requires
    ∙ ap (λ (ns : List Bool). with_gates c.args.member (held_from c.args.member 0 ns) gs) sources
