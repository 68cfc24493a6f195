use Rattle.std.proofs.Common.{refl}
use Rattle.format_tests.proofs.schemas.worked_documents.Goals as goal

pub returns-clause-one : goal.returns-clause-one
returns-clause-one c = record { empty_file = refl; deep_file = refl; no_object = refl; version_as_text = refl; version_true = refl; one_member_more = refl; no_tables = refl; no_indexes = refl; no_id = refl; id_not_unique = refl; prefix_name = refl; table_of_prefix_name = refl; unknown_kind = refl; empty_field = refl; width_three = refl; no_parts_at_all = refl; part_of_parts = refl; id_of_list = refl; id_may_miss = refl }

pub returns-clause-two : goal.returns-clause-two
returns-clause-two c = record { version_then_no_tables = refl; shape_then_version = refl; too_many_then_name = refl; width_then_next_table_name = refl; name_then_shape = refl; no_id_then_index_name = refl; too_many_then_no_id = refl; index_name_then_shape = refl; earlier_index = refl; kind_then_members = refl; index_shape_then_kind = refl; width_then_part = refl; part_then_width = refl; part_then_its_members = refl; width_then_not_unique = refl; multi_then_not_unique = refl; not_unique_then_missing = refl }

pub returns-clause-read : goal.returns-clause-read
returns-clause-read c = record { four_tables = refl; most_tables = refl; most_indexes = refl }

pub returns-clause-tracked : goal.returns-clause-tracked
returns-clause-tracked c = record { two_are_read = refl; none_in_version_one = refl; no_version_three = refl; true_is_tracked = refl; false_is_not = refl; left_out_is_not = refl; number_is_refused = refl; false_in_version_one = refl }

pub returns-clause-kinds : goal.returns-clause-kinds
returns-clause-kinds c = record { plain_text = refl; folded = refl; not_folded = refl; text_list = refl; folded_list = refl; text_map = refl; folded_map = refl; uint_of_one = refl; uint_of_eight = refl; int_of_two = refl; int_of_four = refl; bool = refl; uuid_text = refl; field_set = refl; equals_null = refl; equals_number = refl; equals_empty = refl; compound_of_three = refl; compound_of_one = refl }

pub returns-clause-names : goal.returns-clause-names
returns-clause-names c = record { may_stand = refl; may_not_stand = refl }
