use Rattle.witnesses.proofs.Bounds.{name_in_numbers, numbers_name, range_in_numbers, numbers_range, address_in_numbers, numbers_address}
use Rattle.witnesses.proofs.Bounds.{product_name_in_numbers, numbers_product_name}
use Rattle.witnesses.proofs.laws.bounds_in_numbers.Goals as goal

pub returns-clause-name : goal.returns-clause-name
returns-clause-name c = name_in_numbers

pub returns-clause-named : goal.returns-clause-named
returns-clause-named c = numbers_name

pub returns-clause-range : goal.returns-clause-range
returns-clause-range c = range_in_numbers

pub returns-clause-ranged : goal.returns-clause-ranged
returns-clause-ranged c = numbers_range

pub returns-clause-address : goal.returns-clause-address
returns-clause-address c = address_in_numbers

pub returns-clause-addressed : goal.returns-clause-addressed
returns-clause-addressed c = numbers_address

pub returns-clause-product_name : goal.returns-clause-product_name
returns-clause-product_name c = product_name_in_numbers

pub returns-clause-product_named : goal.returns-clause-product_named
returns-clause-product_named c = numbers_product_name
