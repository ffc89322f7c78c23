use Rattle.kat_search_laws.proofs.Refuting.{some_design}
use Rattle.kat_search_laws.proofs.cart_laws.carts_have_designs.Goals as goal

pub returns : goal.returns
returns c = some_design c.histories_are_complete.ensures c.histories_fit.ensures
