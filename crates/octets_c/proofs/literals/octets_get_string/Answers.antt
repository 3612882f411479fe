-- An error that isn't about the value excludes each literal. An error about the value says its fault.
use Rattle.octets_c.proofs.Places.{left_at, none_refused, for_value_alone, told_at}
use Rattle.octets_c.proofs.literals.octets_get_string.Goals as goal

pub returns-in-Err-Short-clause-every : goal.returns-in-Err-Short-clause-every
returns-in-Err-Short-clause-every c = let h = c.in-Err-Short.ensures in
    λ k v. none_refused c.in-Ok.cursor _ _ _ _ c.in-Ok.ensures.stands h.no_memory h.refused k v

pub returns-in-Err-Short-clause-for_value : goal.returns-in-Err-Short-clause-for_value
returns-in-Err-Short-clause-for_value c = let h = c.in-Err-Short.ensures in
    λ k v. for_value_alone c.in-Ok.cursor _ _ _ _ c.in-Ok.ensures.stands h.no_memory h.refused k v (λ e. cc)

pub returns-in-Err-Length-clause-every : goal.returns-in-Err-Length-clause-every
returns-in-Err-Length-clause-every c = let h = c.in-Err-Length.ensures in
    λ k v. none_refused c.in-Ok.cursor _ _ _ _ c.in-Ok.ensures.stands h.no_memory h.refused k v

pub returns-in-Err-Length-clause-for_value : goal.returns-in-Err-Length-clause-for_value
returns-in-Err-Length-clause-for_value c = let h = c.in-Err-Length.ensures in
    λ k v. for_value_alone c.in-Ok.cursor _ _ _ _ c.in-Ok.ensures.stands h.no_memory h.refused k v (λ e. cc)

pub returns-in-Err-Value-clause-every : goal.returns-in-Err-Value-clause-every
returns-in-Err-Value-clause-every c = let h = c.in-Err-Value.ensures in
    λ k v. none_refused c.in-Ok.cursor _ _ _ _ c.in-Ok.ensures.stands h.no_memory h.refused k v

pub returns-in-Err-Value-clause-front : goal.returns-in-Err-Value-clause-front
returns-in-Err-Value-clause-front c = let h = c.in-Err-Value in
    λ _. left_at c.in-Ok.cursor _ _ _ _ c.in-Ok.ensures.stands (h.ensures.front h.field-0-is)

pub returns-in-Err-Value-clause-fault : goal.returns-in-Err-Value-clause-fault
returns-in-Err-Value-clause-fault c = let h = c.in-Err-Value in
    λ _. told_at c.in-Ok.cursor _ _ _ _ c.read_string_into.new.fault _ _ c.in-Ok.ensures.stands
    (h.ensures.fault h.field-0-is) c.fault_status.ensures.status c.fault_written.ensures
