use Rattle.std.proofs.Common.{◌≡◌, ◌+◌, ◌*◌, ⊎_elim, arith, subst, Contains}
use Rattle.kat_links.specs.Lists.{Lists, list_at}
use Rattle.kat_watch.proofs.Calls.{first_cases}
use Rattle.kat_watch.proofs.watches.watch.Goals as goal

pub push_front-requires-clause-free : goal.push_front-requires-clause-free
push_front-requires-clause-free c = λ l has. absurd (let h = c.requires.free l (2 * c.args.number) has in omega (arith, h))

pub push_front-requires-in-len2-up-clause-free : goal.push_front-requires-in-len2-up-clause-free
push_front-requires-in-len2-up-clause-free c = λ l has.
    let n = c.args.number in
    let P : Lists → Type 0 = λ v. Contains (list_at v.lists l) (2 * n + 1) in
    ⊎_elim
    (λ (e : 2 * n + 1 ≡ 2 * n). absurd (omega (arith, e)))
    (λ (was : Contains (list_at c.args.links.now.lists l) (2 * n + 1)). absurd (let h = c.requires.free l (2 * n + 1) was in omega (arith, h)))
    (first_cases c.args.links.now.lists c.code.result (2 * n) l (2 * n + 1) (subst P c.push_front.ensures has))
