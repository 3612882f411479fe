use Rattle.octets_code.proofs.Faults.{fault_or_none, fault_is_one, fault_ends_within, fault_is_read}
use Rattle.octets_code.proofs.laws.fault_read_once.Goals as goal

pub returns-clause-told : goal.returns-clause-told
returns-clause-told c = fault_or_none

pub returns-clause-one : goal.returns-clause-one
returns-clause-one c = fault_is_one

pub returns-clause-within : goal.returns-clause-within
returns-clause-within c = fault_ends_within

pub returns-clause-read : goal.returns-clause-read
returns-clause-read c = fault_is_read
