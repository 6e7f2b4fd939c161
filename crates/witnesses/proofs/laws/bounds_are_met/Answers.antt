use Rattle.std.proofs.Common.{refl}
use Rattle.witnesses.proofs.laws.bounds_are_met.Goals as goal

pub returns-clause-names : goal.returns-clause-names
returns-clause-names c = (refl, refl)

pub returns-clause-no_names : goal.returns-clause-no_names
returns-clause-no_names c = (refl, refl, refl, refl)

pub returns-clause-ranges : goal.returns-clause-ranges
returns-clause-ranges c = (refl, refl, refl, refl)

pub returns-clause-no_ranges : goal.returns-clause-no_ranges
returns-clause-no_ranges c = (refl, refl, refl)

pub returns-clause-addresses : goal.returns-clause-addresses
returns-clause-addresses c = (refl, refl, refl, refl)

pub returns-clause-no_addresses : goal.returns-clause-no_addresses
returns-clause-no_addresses c = (refl, refl, refl, refl, refl, refl, refl)

pub returns-clause-product_names : goal.returns-clause-product_names
returns-clause-product_names c = (refl, refl)

pub returns-clause-no_product_names : goal.returns-clause-no_product_names
returns-clause-no_product_names c = (refl, refl, refl)
